-- The requests of the worked examples are tidy: their tables are checked.
use Rattle.std.proofs.Common.{◌≡◌, ◌<◌, ℕ, zero, suc, ◌+◌, ◌*◌, List, [], ◌∷◌, map, inl, inr, refl, ap, ◌∙◌, subst, Bool, true, false, cond, not, nat_eq, nat_lt, ◌&&◌, ◌||◌, slice_index_or, arith}
use Rattle.std.specs.List.{list_all}
use Rattle.fv_graph.specs.Graph.{IsIn, AllDiffer, mem}
use Rattle.fv_walk_traces.specs.Turns.{LocalFailure, Way}
use Rattle.fv_walk_traces.specs.Requests.{Own, Plain, InRanks}
use Rattle.fv_walk_traces.specs.Finite.{IsTidy, IsProperOwn, AllOf}
use Rattle.test_walks.specs.Rows.{Tables, row, refers, element_refers, object_refused, chain, trip}

and_left : (a b : Bool) → a && b ≡ true → a ≡ true
and_left true b h = refl
and_left false b h = cc

and_right : (a b : Bool) → a && b ≡ true → b ≡ true
and_right true b h = h
and_right false b h = cc

-- no number comes again later
abbrev pub are_distinct : List ℕ → Bool
are_distinct [] = true
are_distinct (x ∷ xs) = not (mem xs x) && are_distinct xs

was_among : (xs : List ℕ) (x : ℕ) → IsIn xs x → mem xs x ≡ true
was_among [] x h = absurd h
was_among (y ∷ xs) x (inl e) = let q : nat_eq y x ≡ true = subst (λ (z : ℕ). nat_eq y z ≡ true) e (same y) in cc
  where
    same : (n : ℕ) → nat_eq n n ≡ true
    same n = grind arith
was_among (y ∷ xs) x (inr h) = either (nat_eq y x) (mem xs x) (was_among xs x h)
  where
    either : (a b : Bool) → b ≡ true → (a || b) ≡ true
    either true b e = refl
    either false b e = e

mapped : {X : Type 0} (f : X → ℕ) (xs : List X) (x : X) → IsIn xs x → IsIn (map f xs) (f x)
mapped f [] x h = absurd h
mapped f (y ∷ xs) x (inl e) = inl (ap f e)
mapped f (y ∷ xs) x (inr h) = inr (mapped f xs x h)

-- things with different numbers differ
differ : {X : Type 0} (f : X → ℕ) (xs : List X) → are_distinct (map f xs) ≡ true → AllDiffer xs
differ f [] h = tt
differ f (x ∷ xs) h = (
  λ k.
      (let a = was_among (map f xs) (f x) (mapped f xs x k) in
      let b = and_left (not (mem (map f xs) (f x))) (are_distinct (map f xs)) h in
      cc),
  differ f xs (and_right (not (mem (map f xs) (f x))) (are_distinct (map f xs)) h),
)

-- what is so of each thing in a list and of what stands where there is none
at_each : {X : Type 0} (P : X → Type 0) (test : X → Bool) → ((x : X) → test x ≡ true → P x) → (xs : List X) (other : X) → list_all test xs ≡ true → P other → (i : ℕ) → P (slice_index_or xs i other)
at_each P test so [] other h p i = p
at_each P test so (x ∷ xs) other h p zero = so x (and_left (test x) (list_all test xs) h)
at_each P test so (x ∷ xs) other h p (suc i) = at_each P test so xs other (and_right (test x) (list_all test xs) h) p i

-- a number by which references differ
abbrev key : Way → ℕ
key way = way.place.field * 100 + way.target

abbrev differ_ways : List Way → Bool
differ_ways ways = are_distinct (map key ways)

abbrev differ_failures : List LocalFailure → Bool
differ_failures fails = are_distinct (map (λ f. f.node) fails)

abbrev is_proper : Own → Bool
is_proper (Plain fails) = differ_failures fails
is_proper (InRanks lists) = list_all differ_failures lists

proper : (own : Own) → is_proper own ≡ true → IsProperOwn own
proper (Plain fails) h = differ (λ (f : LocalFailure). f.node) fails h
proper (InRanks lists) h = each lists h
  where
    each : (lists : List (List LocalFailure)) → list_all differ_failures lists ≡ true → AllOf AllDiffer lists
    each [] h xs k = absurd k
    each (ys ∷ lists) h xs (inl e) = subst (λ (l : List LocalFailure). AllDiffer l) e (differ (λ (f : LocalFailure). f.node) ys (and_left (differ_failures ys) (list_all differ_failures lists) h))
    each (ys ∷ lists) h xs (inr k) = each lists (and_right (differ_failures ys) (list_all differ_failures lists) h) xs k

abbrev are_below : ℕ → List Way → Bool
are_below n ways = list_all (λ way. nat_lt way.target n) ways

below_all : (n : ℕ) (ways : List Way) → are_below n ways ≡ true → AllOf (λ (way : Way). way.target < n) ways
below_all n [] h way k = absurd k
below_all n (w ∷ ways) h way (inl e) =
    let t : nat_lt w.target n ≡ true = and_left (nat_lt w.target n) (are_below n ways) h in
    let less : w.target < n = less_of w.target n t in
    subst (λ (x : Way). x.target < n) e less
  where
    less_of : (a b : ℕ) → nat_lt a b ≡ true → a < b
    less_of a b h = grind arith
below_all n (w ∷ ways) h way (inr k) = below_all n ways (and_right (nat_lt w.target n) (are_below n ways) h) way k

-- the tables of objects of which references and failures differ, the references being to one of n objects
abbrev pub are_tidy : Tables → ℕ → Bool
are_tidy tables n =
    list_all are_distinct tables.below
    && (list_all differ_ways tables.ways && (list_all (are_below n) tables.ways && list_all (list_all is_proper) tables.own))

pub row_tidy : (tables : Tables) (asked : List ℕ) (n : ℕ) → are_distinct asked ≡ true → are_tidy tables n ≡ true → IsTidy (row tables asked) n
row_tidy tables asked n a h = record {
  asked = distinct asked a;
  below = λ g. at_each AllDiffer are_distinct distinct tables.below [] (and_left b _ h) tt g;
  ways = λ object. at_each AllDiffer differ_ways (differ key) tables.ways [] (and_left w _ rest) tt object;
  targets = λ object. at_each (AllOf (λ (way : Way). way.target < n)) (are_below n) (below_all n) tables.ways [] (and_left t o last) (λ way k. absurd k) object;
  own = λ object h.
      at_each (λ (row : List Own). (h : ℕ) → IsProperOwn (slice_index_or row h (Plain []))) (list_all is_proper)
      (λ row r h. at_each IsProperOwn is_proper proper row (Plain []) r tt h)
      tables.own [] (and_right t o last) (λ h. tt) object h;
}
  where
    b : Bool
    b = list_all are_distinct tables.below

    w : Bool
    w = list_all differ_ways tables.ways

    t : Bool
    t = list_all (are_below n) tables.ways

    o : Bool
    o = list_all (list_all is_proper) tables.own

    rest : w && (t && o) ≡ true
    rest = and_right b (w && (t && o)) h

    last : t && o ≡ true
    last = and_right w (t && o) rest

    as_map : (xs : List ℕ) → map (λ (x : ℕ). x) xs ≡ xs
    as_map [] = refl
    as_map (x ∷ xs) = ap (λ (l : List ℕ). x ∷ l) (as_map xs)

    distinct : (xs : List ℕ) → are_distinct xs ≡ true → AllDiffer xs
    distinct xs h = differ (λ (x : ℕ). x) xs (ap (λ (l : List ℕ). are_distinct l) (as_map xs) ∙ h)

pub chain_tidy : (n : ℕ) → IsTidy (chain n) n
chain_tidy n = record {
  asked = (λ h. h, tt);
  below = λ g. (λ h. h, tt);
  ways = λ object. once (nat_lt (object + 1) n) object;
  targets = λ object. among (nat_lt (object + 1) n) refl object refl;
  own = λ object h. tt;
}
  where
    once : (b : Bool) (object : ℕ) → AllDiffer (cond b (refers 0 (object + 1) ∷ []) [])
    once true object = (λ h. h, tt)
    once false object = tt

    among : (b : Bool) → b ≡ b → (object : ℕ) → nat_lt (object + 1) n ≡ b → AllOf (λ (way : Way). way.target < n) (cond b (refers 0 (object + 1) ∷ []) [])
    among true d object e way (inl k) = (let less : object + 1 < n = grind (arith, e) in subst (λ (x : Way). x.target < n) k less)
    among true d object e way (inr k) = absurd k
    among false d object e way k = absurd k

pub trip_tidy : (root : ℕ) → IsTidy (trip root) 3
trip_tidy root = record {
  asked = (λ h. h, tt);
  below = λ g. (λ h. h, tt);
  ways = λ object. at_each AllDiffer differ_ways (differ key) legs [] refl tt object;
  targets = λ object. at_each (AllOf (λ (way : Way). way.target < 3)) (are_below 3) (below_all 3) legs [] refl (λ way k. absurd k) object;
  own = λ object h. one (nat_eq object 2);
}
  where
    legs : List (List Way)
    legs = (element_refers 0 0 1 ∷ element_refers 0 1 2 ∷ []) ∷ []

    one : (b : Bool) → IsProperOwn (cond b (Plain (object_refused 0 ∷ [])) (Plain []))
    one true = (λ h. h, tt)
    one false = tt
