-- What is a marked node, or leads to one.
use Rattle.std.proofs.Common.{◌≡◌, ◌<◌, ◌+◌, Vec, Global, Result, Ok, Err, IfOk, ℕ, zero, suc, List, [], ◌∷◌, ◌++◌, ◌↔◌, inl, inr, refl, sym, subst, ◌∙◌, ap, arith, Bool, true, false, get_or, length, take}
use borrow.Author.Count.{below_more}
use Rattle.std.proofs.lemmas.List.{take_more, get_or_read, get_or_append_left, get_or_push}
use Rattle.fv_graph.specs.Graph.{IsIn, IsCyclic, IsOrder, IsPartOrder, IsBelow, next_of}
use Rattle.fv_graph.proofs.Lists.{in_cases}
use Rattle.fv_declare_schema.specs.Marked.{flag_of, Reaches, ReachesMarked, AreReaching, AreLeading, AreMeetingIn, IsAcyclic}
use Rattle.fv_declare_schema.specs.Tables.{indices, AreRanks}
use Rattle.fv_declare_schema.specs.declared.declared.GroupId.{GroupId}

-- what a node's edge leads to reaches, the node does
pub reaches_on : (next : ℕ → List ℕ) (i k j : ℕ) → IsIn (next i) k → Reaches next k j → Reaches next i j
reaches_on next i k j h (inl e) = inr (0, subst (λ (w : ℕ). IsIn (next i) w) e h)
reaches_on next i k j h (inr l) = inr (suc l.0, (k, h, l.1))

pub marked_on : (next : ℕ → List ℕ) (marked : List Bool) (i k : ℕ) → IsIn (next i) k → ReachesMarked next marked k → ReachesMarked next marked i
marked_on next marked i k h r = (r.0, reaches_on next i k r.0 h r.1, r.2)

pub true_false : {b : Bool} → b ≡ true → b ≡ false → ⊥
true_false e f = cc

-- a node that isn't marked and whose edges lead to no such node
pub none_marked : (next : ℕ → List ℕ) (marked : List Bool) (i : ℕ) → flag_of marked i ≡ false → ((k : ℕ) → IsIn (next i) k → ReachesMarked next marked k → ⊥) → ReachesMarked next marked i → ⊥
none_marked next marked i plain none (j, inl e, f) = true_false f (subst (λ (w : ℕ). flag_of marked w ≡ false) e plain)
none_marked next marked i plain none (j, inr (zero, h), f) = none j h (j, inl refl, f)
none_marked next marked i plain none (j, inr (suc n, (k, h, l)), f) = none k h (j, inr (n, l), f)

-- a flag that is set is one of the list
pub flag_within : (flags : List Bool) (i : ℕ) → flag_of flags i ≡ true → i < length flags
flag_within [] i e = cc
flag_within (b ∷ flags) zero e = omega arith
flag_within (b ∷ flags) (suc i) e = let h = flag_within flags i e in omega arith

-- one more of the nodes that edges lead to
pub no_more : (P : ℕ → Type 0) (xs : List ℕ) (k x : ℕ) → k < length xs → x ≡ get_or xs k 0 → ((j : ℕ) → IsIn (take k xs) j → P j → ⊥) → (P x → ⊥) → (j : ℕ) → IsIn (take (k + 1) xs) j → P j → ⊥
no_more P xs k x less is before here j h p =
    elim (in_cases (take k xs) (get_or xs k 0 ∷ []) j (subst (λ (l : List ℕ). IsIn l j) (take_more xs k 0 less) h)) [
      | inl in_before ↦ before j in_before p
      | inr in_last ↦ elim in_last [ inl e ↦ here (subst P (sym e ∙ sym is) p) | inr n ↦ n ]
    ]

-- an order of all nodes is one of nodes that meet no cycle
pub part_order : (next : ℕ → List ℕ) (count : ℕ) (order : List ℕ) → (IsCyclic next → ⊥) → IsOrder next count order → IsPartOrder next count order
part_order next count order no_cycle o = (λ i h. ((o.1 i).0 h, λ m. no_cycle (m.0, m.2)), o.2)

-- a flag that is read
pub flag_at : (flags : List Bool) (i : ℕ) (b : Bool) → i < length flags → b ≡ get_or flags i b → flag_of flags i ≡ b
flag_at flags i b less is = sym (get_or_read flags i b less is false)

-- what an answer is, by two facts of it
pub both_ok : {X E : Type 0} (r : Result X E) {P Q R : X → Type 0} → IfOk r P → IfOk r Q → ((x : X) → P x → Q x → R x) → IfOk r R
both_ok (Ok x) p q then = then x p q
both_ok (Err e) p q then = tt

-- where one node alone is marked, the marked one is reached
pub leading_one : (next : ℕ → List ℕ) (count : ℕ) (marked row : List Bool) (node : ℕ) → ((k : ℕ) → (flag_of marked k ≡ true) ↔ (k ≡ node)) → AreReaching next count marked row → AreLeading next count row node
leading_one next count marked row node one are = (
  are.0,
  λ i less. (
    λ f. (let r = (are.1 i less).0 f in subst (λ (w : ℕ). Reaches next i w) ((one r.0).0 r.2) r.1),
    λ r. (are.1 i less).1 (node, r, (one node).1 refl),
  ),
)

-- one more of the rows
pub rows_more : {X : Type 0} (P : ℕ → X → Type 0) (rows rows' : List X) (count : ℕ) (row : X) → rows' ≡ rows ++ row ∷ [] → length rows ≡ count
    → ((j : ℕ) (d : X) → j < count → P j (get_or rows j d)) → P count row → (j : ℕ) (d : X) → j < count + 1 → P j (get_or rows' j d)
rows_more {X} P rows rows' count row is long before here j d less =
    below_more (λ k. P k (get_or rows' k d)) count
    (λ k h. subst (P k) (sym (ap (λ (l : List X). get_or l k d) is ∙ get_or_append_left rows (row ∷ []) d k (omega (arith, long)))) (before k d h))
    (subst (P count) (sym (ap (λ (l : List X). get_or l count d) is ∙ get_or_push rows row d count long)) here) j less

-- what is marked at each node of a table along an order
pub all_reaching : (edges : List (Vec ℕ Global)) (order : List ℕ) (marked table : List Bool) (count : ℕ) → IsAcyclic edges order → count ≡ length edges → length table ≡ count
    → ((i : ℕ) (d : Bool) → IsIn order i → (get_or table i d ≡ true) ↔ ReachesMarked (next_of edges) marked i) → AreReaching (next_of edges) (length edges) marked table
all_reaching edges order marked table count acyclic e long right = (long ∙ e, λ i less. right i false ((acyclic.ordered.1 i).1 less))

-- the same, where the edges and the marks are read
pub all_ranks : (edges : List (Vec ℕ Global)) (order : List ℕ) (table : List (Vec GroupId Global)) (count : ℕ) (ranks : ℕ → List ℕ) → IsAcyclic edges order → count ≡ length edges → length table ≡ count
    → ((i : ℕ) (d : Vec GroupId Global) → IsIn order i → indices (get_or table i d).items ≡ ranks i) → AreRanks ranks (length edges) table
all_ranks edges order table count ranks acyclic e long right = (long ∙ e, λ i d less. right i d ((acyclic.ordered.1 i).1 less))

-- the nodes of one graph that reach a node which reaches node 0 by the edges of another
pub meeting : (inherited members : ℕ → List ℕ) (count : ℕ) (one_flag inheriting flags : List Bool) → 0 < count → IsBelow inherited count → ((k : ℕ) → (flag_of one_flag k ≡ true) ↔ (k ≡ 0))
    → AreReaching inherited count one_flag inheriting → AreReaching members count inheriting flags → AreMeetingIn inherited members count flags
meeting inherited members count one_flag inheriting flags some below one inh mem = (
  mem.0,
  λ g less. (
    λ f. (let r = (mem.1 g less).0 f in
        let m = (inh.1 r.0 (subst (λ (n : ℕ). r.0 < n) inh.0 (flag_within inheriting r.0 r.2))).0 r.2 in
        (r.0, r.1, subst (λ (w : ℕ). Reaches inherited r.0 w) ((one m.0).0 m.2) m.1)),
    λ r. (mem.1 g less).1 (r.0, r.1, (inh.1 r.0 (start r.0 r.2)).1 (0, r.2, (one 0).1 refl)),
  ),
)
  where
    start : (k : ℕ) → Reaches inherited k 0 → k < count
    start k (inl e) = subst (λ (w : ℕ). w < count) (sym e) some
    start k (inr (zero, h)) = (below k 0 h).0
    start k (inr (suc n, (j, h, l))) = (below k j h).0
