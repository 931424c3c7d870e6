-- What is sorted, each once, ascends, and has the members that it had.
use Rattle.std.proofs.Common.{length, get_or, map, suc, zero, Ordering, Less, Equal, Greater, nat_cmp, ◌≡◌, ◌↔◌, ◌<◌, ℕ, List, [], ◌∷◌, Bool, true, false, refl, sym, ap, ap₂, subst, ◌∙◌, inl, inr, cond, nat_lt, nat_eq, arith}
use Rattle.std.proofs.lemmas.Bool.{ltb-true}
use Rattle.std.proofs.lemmas.Cmp.{nat_list_cmp_total, nat_cmp_total, eq_by_cmp_equiv}
use Rattle.std.proofs.lemmas.List.Kept.{Any-dedup, Contains-from_dedup, IsStrictlySortedBy-dedup}
use Rattle.std.proofs.lemmas.List.Sorted.{Contains-permutation, IsPermutation-sym, ranks_by}
use Rattle.std.proofs.lemmas.Map.Keys.{sorted_head, sorted_tail}
use Rattle.std.proofs.lemmas.Map.Lookups.{exact_unsigned, exact_bytes}
use Rattle.std.specs.Cmp.{IsTotalOrder, IsStrictWeakOrder, on_total, then_total}
use Rattle.std.specs.Cmp.Lexicographic.{slice_cmp}
use Rattle.std.specs.List.{AllByRecursion, Contains, dedup}
use Rattle.std.specs.List.Sorted.{IsPermutation, IsSorted, IsStrictlySortedBy}
use Rattle.std.specs.Ordering.{is_lt, is_eq, ordering_then, eq_by_cmp}
use Rattle.fv_graph.specs.Graph.{IsIn}
use Rattle.fv_validate.specs.Listing.{key_of, AreToldApart, order}
use Rattle.fv_validate.specs.Violations.{Reported, Precedes, AreInOrder}

-- ---- the order

total : IsTotalOrder order
total = then_total (on_total (λ (v : Reported). v.path) nat_list_cmp_total) (on_total (λ (v : Reported). v.occurrence) nat_cmp_total)

is_below : (b c : Bool) → cond b Less (cond c Equal Greater) ≡ Less → b ≡ true
is_below true c e = refl
is_below false true e = cc
is_below false false e = cc

below : (i j : ℕ) → nat_cmp i j ≡ Less → i < j
below i j e = ltb-true i j (is_below (nat_lt i j) (nat_eq i j) e)

by_path : (v w : Reported) (c : Ordering) → slice_cmp nat_cmp v.path w.path ≡ c → ordering_then c (nat_cmp v.occurrence w.occurrence) ≡ Less → Precedes v w
by_path v w Less e up = inl (ap is_lt e)
by_path v w Equal e up = inr (exact_bytes v.path w.path e, below v.occurrence w.occurrence up)
by_path v w Greater e up = cc

precedes : (v w : Reported) → order v w ≡ Less → Precedes v w
precedes v w up = by_path v w (slice_cmp nat_cmp v.path w.path) refl up

both : (v w : Reported) (c : Ordering) → slice_cmp nat_cmp v.path w.path ≡ c → ordering_then c (nat_cmp v.occurrence w.occurrence) ≡ Equal → key_of v ≡ key_of w
both v w Less e same = cc
both v w Equal e same = ap₂ (λ (p : List ℕ) (n : ℕ). (p, n)) (exact_bytes v.path w.path e) (exact_unsigned v.occurrence w.occurrence same)
both v w Greater e same = cc

is_equal : (c : Ordering) → is_eq c ≡ true → c ≡ Equal
is_equal Less e = cc
is_equal Equal e = refl
is_equal Greater e = cc

same_key : (v w : Reported) → is_eq (order v w) ≡ true → key_of v ≡ key_of w
same_key v w e = both v w (slice_cmp nat_cmp v.path w.path) refl (is_equal (order v w) e)

module _ {X : Type 0} (f : X → Reported) where
  -- the order of what is reported as these are
  abbrev pub by_report : X → X → Ordering
  by_report x y = order (f x) (f y)

  total_by : IsTotalOrder by_report
  total_by = on_total f total

  pub ranks : IsStrictWeakOrder (λ x y. is_lt (by_report x y))
  ranks = ranks_by total f

  -- ---- ascending

  all_behind : (x : X) (xs : List X) → AllByRecursion (λ y. by_report x y ≡ Less) xs → AllByRecursion (Precedes (f x)) (map f xs)
  all_behind x [] all = tt
  all_behind x (y ∷ ys) all = (precedes (f x) (f y) all.0, all_behind x ys all.1)

  strict : (xs : List X) → IsStrictlySortedBy by_report xs → AreInOrder (map f xs)
  strict [] up = tt
  strict (x ∷ xs) up = (all_behind x xs (sorted_head by_report x xs up), strict xs (sorted_tail by_report x xs up))

  -- what is sorted ascends once repeats are left out
  pub ascends : (xs : List X) → IsSorted by_report xs → AreInOrder (map f (dedup (eq_by_cmp by_report) xs))
  ascends xs up = strict (dedup (eq_by_cmp by_report) xs) (IsStrictlySortedBy-dedup total_by (λ x y. refl) xs up)

  -- ---- the same members

  map_at : (xs : List X) (k : ℕ) (x : X) → k < length xs → get_or xs k x ≡ x → IsIn (map f xs) (f x)
  map_at [] k x within e = absurd (omega arith)
  map_at (y ∷ ys) zero x within e = inl (ap f e)
  map_at (y ∷ ys) (suc k) x within e = inr (map_at ys k x (omega arith) e)

  in_map : (xs : List X) (x : X) → Contains xs x → IsIn (map f xs) (f x)
  in_map xs x c = map_at xs c.0 x c.1 c.2

  from_map : (xs : List X) (r : Reported) → IsIn (map f xs) r → (x : X) × Contains xs x × (f x ≡ r)
  from_map [] r h = absurd h
  from_map (y ∷ ys) r (inl e) = (y, (0, omega arith, refl), e)
  from_map (y ∷ ys) r (inr h) = let g = from_map ys r h in (g.0, (suc g.1.0, omega (arith, g.1.1), g.1.2), g.2)

  module _ (old sorted : List X) (same : IsPermutation old sorted) where
    back : (x : X) → Contains sorted x → IsIn (map f old) (f x)
    back x c = in_map old x (Contains-permutation sorted old x (IsPermutation-sym old sorted same) c)

    stays : AreToldApart (map f old) → (r : Reported) → IsIn (map f old) r → IsIn (map f (dedup (eq_by_cmp by_report) sorted)) r
    stays apart r h =
        let g = from_map old r h in
        let there : Contains sorted g.0 = Contains-permutation old sorted g.0 same g.1 in
        let one = Any-dedup (eq_by_cmp_equiv total_by) sorted g.0 there in
        let y : X = one.1 in
        let kept : Contains (dedup (eq_by_cmp by_report) sorted) y = (one.0, one.2, one.3) in
        let came : Contains sorted y = Contains-from_dedup (eq_by_cmp by_report) sorted y kept in
        let is : f g.0 ≡ f y = apart (f g.0) (f y) (in_map old g.0 g.1) (back y came) (same_key (f g.0) (f y) one.4) in
        subst (IsIn (map f (dedup (eq_by_cmp by_report) sorted))) (sym is ∙ g.2) (in_map (dedup (eq_by_cmp by_report) sorted) y kept)

    comes : (r : Reported) → IsIn (map f (dedup (eq_by_cmp by_report) sorted)) r → IsIn (map f old) r
    comes r h =
        let g = from_map (dedup (eq_by_cmp by_report) sorted) r h in
        subst (IsIn (map f old)) g.2 (back g.0 (Contains-from_dedup (eq_by_cmp by_report) sorted g.0 g.1))

    -- those that are told apart by their keys are the same ones, sorted and without repeats
    pub same_members : AreToldApart (map f old) → (r : Reported) → IsIn (map f (dedup (eq_by_cmp by_report) sorted)) r ↔ IsIn (map f old) r
    same_members apart r = (comes r, stays apart r)
