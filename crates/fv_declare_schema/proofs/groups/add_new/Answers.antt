use Rattle.std.proofs.Common.{arith, get_or, sym, ap, ◌∙◌, ◌++◌, ◌∷◌, [], List, ℕ, ◌+◌, take, true, false, ◌≡◌, append_assoc}
use Rattle.std.proofs.lemmas.List.{map-append}
use Rattle.fv_graph.specs.Graph.{mem}
use Rattle.fv_declare_schema.specs.Once.{once}
use Rattle.fv_declare_schema.specs.Tables.{indices}
use Rattle.fv_declare_schema.specs.declared.declared.GroupId.{GroupId}
use Rattle.fv_declare_schema.proofs.Ranks.{once_skip, once_add, indices_more}
use Rattle.fv_declare_schema.proofs.groups.add_new.Goals as goal
use Rattle.fv_declare_schema.proofs.groups.add_new.Goals.{then-not-has+in_ok-push, else-not-has}

pub loop-group-preserved : goal.loop-group-preserved
loop-group-preserved c = λ xs e.
    (let inv = c.loop-group.invariant xs e in
    let more = c.args.more.now in
    let k = c.loop-group.group-index in
    let y : GroupId = get_or more k record { index = 0 } in
    let ys = xs ++ indices (take k more) in
    let q : mem (once ys) y.index ≡ c.has.result =
    ap (λ (l : List ℕ). mem l y.index) (sym inv ∙ ap (λ (gs : List GroupId). indices gs) (sym c.deref.ensures.value)) ∙ sym c.has.ensures in
    let longer : xs ++ indices (take (k + 1) more) ≡ ys ++ y.index ∷ [] =
    ap (λ (l : List ℕ). xs ++ l) (indices_more more k record { index = 0 } (omega arith)) ∙ sym (append_assoc xs (indices (take k more)) (y.index ∷ [])) in
    elim c.if-not-has.branch [
      | then-not-has+in_ok-push w ↦
          (let h = w.if-not-has.true in
          let m : c.has.result ≡ false = grind arith in
          ap (λ v. indices v.items) w.groups-is ∙ ap (λ (gs : List GroupId). indices gs) w.in_ok-push.ensures.items ∙ map-append (λ (g : GroupId). g.index) c.loop-group.groups.items (y ∷ []) ∙ ap (λ (l : List ℕ). l ++ y.index ∷ []) inv
          ∙ sym (ap (λ (l : List ℕ). once l) longer ∙ once_add ys y.index (q ∙ m)))
      | else-not-has w ↦
          (let h = w.if-not-has.false in
          let m : c.has.result ≡ true = grind arith in
          ap (λ v. indices v.items) w.groups-is ∙ inv ∙ sym (ap (λ (l : List ℕ). once l) longer ∙ once_skip ys y.index (q ∙ m)))
    ])
