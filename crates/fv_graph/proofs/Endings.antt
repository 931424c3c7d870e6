-- What is ordered when all nodes are marked.
use Rattle.std.proofs.Common.{◌≡◌, ◌<◌, ◌≤◌, ℕ, List, [], ◌∷◌, inl, inr, refl, sym, ap, subst, arith, zero, suc, ◌⊎◌, ◌||◌, Bool, true, false, nat_eq, get_or, length, reverse}
use Rattle.std.specs.List.{AllByRecursion, IsDistinct, list_any}
use Rattle.std.proofs.lemmas.List.{reverse-reverse}
use Rattle.std.proofs.lemmas.Map.Steps.{length-le_from_distinct_below, le-length_from_below}
use Rattle.fv_graph.specs.Graph.{IsIn, AllDiffer, LeadsIn, MeetsCycle, IsCyclic, ComesAfter, IsOrder, IsRestOrder, IsBelow}
use Rattle.fv_graph.specs.Search.{MarkSays, IsSearch}
use Rattle.fv_graph.specs.declared.search.Mark.{Mark}
use Rattle.fv_graph.specs.declared.search.Mark.TheVariants.{New, Open, Done, Meets}
use Rattle.fv_graph.proofs.Lists.{in_reverse, from_reverse, AllDiffer-reverse, eq_of, ne_of, eq_same, or_true}
use Rattle.fv_graph.proofs.Chains.{meets_own, no_meeting, comes_after}

pub ends : (next : ℕ → List ℕ) (count : ℕ) (marks : List Mark) (order : List ℕ) → IsSearch next count marks (reverse order) [] → ((i : ℕ) → i < count → get_or marks i New ≡ New → ⊥) → IsRestOrder next count order
ends next count marks order s marked = record {
  once = subst (λ (l : List ℕ). AllDiffer l) (reverse-reverse order) (AllDiffer-reverse (reverse order) s.once);
  part = (
    (λ i h. (let there = in_reverse order i h in (s.small i there, no_meeting next (reverse order) i s.follows s.once there))),
    subst (λ (l : List ℕ). ComesAfter next l) (reverse-reverse order) (comes_after next (reverse order) s.follows),
  );
  others = λ i less. go i less (get_or marks i New) refl;
}
  where
    go : (i : ℕ) → i < count → (m : Mark) → get_or marks i New ≡ m → IsIn order i ⊎ MeetsCycle next i
    go i less New e = absurd (marked i less e)
    go i less Open e = absurd (subst (λ (m : Mark). MarkSays next (reverse order) [] i m) e (s.marked i less))
    go i less Done e = inl (from_reverse order i (subst (λ (m : Mark). MarkSays next (reverse order) [] i m) e (s.marked i less)))
    go i less Meets e = inr (subst (λ (m : Mark). MarkSays next (reverse order) [] i m) e (s.marked i less))

-- all are of the first kind, or one is of the second
all_or_one : (A B : ℕ → Type 0) (n : ℕ) → ((i : ℕ) → i < n → A i ⊎ B i) → ((i : ℕ) → i < n → A i) ⊎ ((i : ℕ) × B i)
all_or_one A B zero each = inl (λ i less. absurd (omega arith))
all_or_one A B (suc n) each = elim (all_or_one A B n (λ i less. each i (omega arith))) [
  | inr one ↦ inr one
  | inl all ↦ elim (each n (omega arith)) [
    | inr b ↦ inr (n, b)
    | inl a ↦ inl (λ i less. last a all i less (nat_eq n i) refl)
  ]
]
  where
    last : A n → ((i : ℕ) → i < n → A i) → (i : ℕ) → i < suc n → (b : Bool) → nat_eq n i ≡ b → A i
    last a all i less true e = subst A (eq_of n i e) a
    last a all i less false e = all i (small (ne_of n i e) less)
      where
        small : (n ≡ i → ⊥) → i < suc n → i < n
        small ne less = omega arith

in_any : (xs : List ℕ) (i : ℕ) → IsIn xs i → list_any (nat_eq i) xs ≡ true
in_any [] i h = absurd h
in_any (x ∷ xs) i (inl e) = ap (λ (b : Bool). b || list_any (nat_eq i) xs) (subst (λ (w : ℕ). nat_eq i w ≡ true) (sym e) (eq_same i))
in_any (x ∷ xs) i (inr h) = go (nat_eq i x) (in_any xs i h)
  where
    go : (b : Bool) → list_any (nat_eq i) xs ≡ true → (b || list_any (nat_eq i) xs) ≡ true
    go true e = refl
    go false e = e

any_in : (xs : List ℕ) (i : ℕ) → list_any (nat_eq i) xs ≡ true → IsIn xs i
any_in [] i h = cc
any_in (x ∷ xs) i h = elim (or_true (nat_eq i x) (list_any (nat_eq i) xs) h) [ inl e ↦ inl (sym (eq_of i x e)) | inr k ↦ inr (any_in xs i k) ]

distinct : (xs : List ℕ) → AllDiffer xs → IsDistinct nat_eq xs
unfolding IsDistinct
distinct [] d = tt
distinct (x ∷ xs) d = (apart xs d.0, distinct xs d.1)
  where
    apart : (ys : List ℕ) → (IsIn ys x → ⊥) → AllByRecursion (λ y. nat_eq x y ≡ false) ys
    apart [] out = tt
    apart (y ∷ ys) out = (go (nat_eq x y) refl, apart ys (λ h. out (inr h)))
      where
        go : (b : Bool) → nat_eq x y ≡ b → nat_eq x y ≡ false
        go true e = absurd (out (inl (sym (eq_of x y e))))
        go false e = e

-- where a node is left out, some node leads to itself
pub left_out : (next : ℕ → List ℕ) (count : ℕ) (order : List ℕ) → IsRestOrder next count order → length order < count → IsCyclic next
left_out next count order r short = elim (all_or_one (λ i. IsIn order i) (λ i. MeetsCycle next i) count r.others) [
  | inl all ↦ (let long = le-length_from_below order count (λ i less. in_any order i (all i less)) in absurd (omega (arith, long)))
  | inr one ↦ (one.1.0, one.1.2)
]

-- where no node is left out, none leads to itself
pub none_out : (next : ℕ → List ℕ) (count : ℕ) (order : List ℕ) → IsBelow next count → IsRestOrder next count order → count ≤ length order → (IsCyclic next → ⊥) × IsOrder next count order
none_out next count order below r long = (
  λ c. (r.part.0 c.0 (all c.0 (starts c.0 c.0 c.1.0 c.1.1))).1 (meets_own next c.0 c.1),
  (r.once, (λ i. ((λ h. (r.part.0 i h).0), all i)), r.part.1),
)
  where
    all : (i : ℕ) → i < count → IsIn order i
    all i less = elim (r.others i less) [
      | inl h ↦ h
      | inr m ↦ (let short = length-le_from_distinct_below (i ∷ order) count (distinct (i ∷ order) ((λ h. (r.part.0 i h).1 m), r.once)) (λ q h. elim (any_in (i ∷ order) q h) [
        | inl e ↦ subst (λ (w : ℕ). w < count) e less
        | inr k ↦ (r.part.0 q k).0
      ]) in absurd (omega (arith, short)))
    ]

    starts : (i j steps : ℕ) → LeadsIn next steps i j → i < count
    starts i j zero h = (below i j h).0
    starts i j (suc steps) h = (below i h.0 h.1).0
