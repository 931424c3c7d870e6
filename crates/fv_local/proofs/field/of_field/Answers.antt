use Rattle.std.proofs.Common.{◌≡◌, ◌<◌, ◌++◌, ◌∷◌, [], ℕ, map, filter, Bool, true, false, cond, length, get_or, append-nil, Vec, Global, refl, sym, ap, ◌∙◌}
use Rattle.std.specs.Option.{option_map_or}
use Rattle.fv_declare_schema.specs.PlacedView.{placed_view}
use Rattle.fv_declare_schema.specs.declared.place.Placed.{Placed}
use Rattle.fv_local.specs.Fields.{is_at, stands_in, is_of_field}
use Rattle.fv_local.proofs.Fields.{one_kept}
use Rattle.fv_local.proofs.Picked.{asked_at}
use Rattle.fv_local.proofs.field.of_field.Goals as goal
use Rattle.fv_local.proofs.field.of_field.Goals.{then-is_at+in_ok-push, else-is_at}

pub loop-index-preserved : goal.loop-index-preserved
loop-index-preserved c =
    let os = c.args.occurrences.now in
    let xs = c.args.uses.now in
    let k = c.loop-index.index-index in
    let test = is_of_field (map placed_view os) c.args.field in
    let less : k < length xs = c.loop-index-test.true in
    let there = asked_at os xs k c.index-occurrences-index.result c.requires less in
    let stands : test (get_or xs k 0) ≡ c.is_at.result =
    ap (λ o. option_map_or (stands_in c.args.field) o false) there
    ∙ ap (is_at c.args.field) (sym (c.place.ensures ∙ ap (λ (o : Placed). (placed_view o).place) c.index-occurrences-index.is)) ∙ sym c.is_at.ensures in
    let before = c.loop-index.kept.items in
    let kept : (b : Bool) → test (get_or xs k 0) ≡ b → before ++ cond b (get_or xs k 0 ∷ []) [] ≡ before ++ filter test (get_or xs k 0 ∷ []) = λ b e. ap (λ (a : Bool). before ++ cond a (get_or xs k 0 ∷ []) []) (sym e) in
    elim c.if-is_at.branch [
      | then-is_at+in_ok-push w ↦
          one_kept test xs before c.if-is_at.kept.items k _ less refl (ap (λ (v : Vec ℕ Global). v.items) w.kept-is ∙ w.in_ok-push.ensures.items ∙ kept true (stands ∙ w.if-is_at.true)) ∙ c.loop-index.invariant
      | else-is_at w ↦
          one_kept test xs before c.if-is_at.kept.items k _ less refl (ap (λ (v : Vec ℕ Global). v.items) w.kept-is ∙ sym (append-nil before) ∙ kept false (stands ∙ w.if-is_at.false)) ∙ c.loop-index.invariant
    ]
