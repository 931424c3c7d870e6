-- The first list of uses of which something is told, and runs of uses at one place.
use Rattle.std.proofs.Common.{◌≡◌, ◌<◌, ◌≤◌, ◌⊎◌, inl, inr, ℕ, ℤ, zero, suc, ◌+◌, List, [], ◌∷◌, ◌++◌, map, length, get_or, take, Some, slice_get, refl, sym, ap, subst, ◌∙◌, append_assoc, Vec, Global, arith}
use Rattle.std.proofs.lemmas.List.Elements.{All-from_recursion, recursion_from_All}
use Rattle.std.specs.List.{All, AllByRecursion}
use Rattle.fv_declare_schema.specs.Declarations.{Placed}
use Rattle.fv_declare_schema.specs.PlacedView.{placed_view}
use Rattle.fv_declare_schema.specs.declared.place.Placed as code
use Rattle.fv_graph.specs.Graph.{IsIn}
use Rattle.fv_bundle.specs.Bundles.{Thing}
use Rattle.fv_local.specs.TableView.{lists_view}
use Rattle.fv_registry.specs.Meanings.{Meanings}
use Rattle.fv_declare_schema.specs.Places.{Place}
use Rattle.fv_local.specs.declared.failure.LocalFailure as failure
use Rattle.fv_local.specs.Told.{Told, told_view, picked, told_at, IsTold, IsToldFirst, IsSamePlace, AreRun}
use Rattle.fv_local.proofs.Picked.{asked_at, picked_more, same_default}
use Rattle.fv_local.proofs.Sets.{one_run}

-- ---- lists

all_end : {X : Type 0} (P : X → Type 0) (xs ys : List X) → AllByRecursion P xs → AllByRecursion P ys → AllByRecursion P (xs ++ ys)
all_end P [] ys h k = k
all_end P (x ∷ xs) ys h k = (h.0, all_end P xs ys h.1 k)

all_behind : {X : Type 0} (P : X → Type 0) (xs ys : List X) → AllByRecursion P (xs ++ ys) → AllByRecursion P ys
all_behind P [] ys h = h
all_behind P (x ∷ xs) ys h = all_behind P xs ys h.1

-- what each of a list has, those behind have
pub behind : (P : ℕ → Type 0) (front back rest : List ℕ) → rest ≡ front ++ back → All P rest → All P back
behind P front back rest split all =
    All-from_recursion P back (all_behind P front back (subst (λ (l : List ℕ). AllByRecursion P l) split (recursion_from_All P rest all)))

pub in_front : (P : ℕ → Type 0) (front back rest : List ℕ) → rest ≡ front ++ back → All P rest → All P front
in_front P front back rest split all = All-from_recursion P front (go front (subst (λ (l : List ℕ). AllByRecursion P l) split (recursion_from_All P rest all)))
  where
    go : (xs : List ℕ) → AllByRecursion P (xs ++ back) → AllByRecursion P xs
    go [] h = tt
    go (x ∷ xs) h = (h.0, go xs h.1)

get_first : (xs : List ℕ) (n i : ℕ) → slice_get (take n xs) 0 ≡ Some i → i ≡ get_or xs 0 0
get_first [] zero i e = absurd (cc)
get_first [] (suc n) i e = absurd (cc)
get_first (x ∷ xs) zero i e = absurd (cc)
get_first (x ∷ xs) (suc n) i e = let same : x ≡ i = cc in sym same

-- ---- runs

-- a run that is one use longer
pub run_longer : (os : List code.Placed) (uses : List ℕ) (k : ℕ) (d : code.Placed) (place here : Place) → All (λ i. i < length os) uses → k < length uses
    → AllByRecursion (λ u. IsSamePlace u.place place) (picked (map placed_view os) (take k uses))
    → here ≡ (placed_view (get_or os (get_or uses k 0) d)).place → IsSamePlace here place
    → AllByRecursion (λ u. IsSamePlace u.place place) (picked (map placed_view os) (take (k + 1) uses))
run_longer os uses k d place here within less all is same =
    let us = map placed_view os in
    let i = get_or uses k 0 in
    let u = placed_view (get_or os i d) in
    let longer = picked_more us uses k i u less (same_default uses k i 0 less) (asked_at os uses k d within less) in
    subst (λ (l : List Placed). AllByRecursion (λ v. IsSamePlace v.place place) l) (sym longer)
    (all_end (λ v. IsSamePlace v.place place) (picked us (take k uses)) (u ∷ []) all (subst (λ (p : Place). IsSamePlace p place) is same, tt))

-- the place of a run's first use
pub is_run : (os : List code.Placed) (uses : List ℕ) (n : ℕ) (d : code.Placed) (place : Place) → All (λ i. i < length os) uses → 0 < length uses
    → place ≡ (placed_view (get_or os (get_or uses 0 0) d)).place
    → AllByRecursion (λ u. IsSamePlace u.place place) (picked (map placed_view os) (take n uses)) → AreRun (map placed_view os) (take n uses)
is_run os uses n d place within some is all = (
  place,
  all,
  λ i u first at.
      let i_is = get_first uses n i first in
      let there = asked_at os uses 0 d within some in
      let same : Some u ≡ Some (placed_view (get_or os (get_or uses 0 0) d)) = sym at ∙ ap (slice_get (map placed_view os)) i_is ∙ there in
      let u_is : u ≡ placed_view (get_or os (get_or uses 0 0) d) = cc in
      ap (λ (v : Placed). v.place) u_is ∙ sym is,
)

some_first : (xs : List ℕ) → 0 < length xs → slice_get xs 0 ≡ Some (get_or xs 0 0)
some_first [] less = absurd (omega arith)
some_first (x ∷ xs) less = refl

module _ (m : Meanings) (now : ℤ) (object : Thing) (os : List code.Placed) where
  -- one run more is told
  pub run_more : (uses rest run after : List ℕ) (d : code.Placed) (here : Place) (before made : List Told) → All (λ i. i < length os) rest → rest ≡ run ++ after → 0 < length run
      → AreRun (map placed_view os) run → here ≡ (placed_view (get_or os (get_or run 0 0) d)).place
      → made ≡ before ++ told_at m now (picked (map placed_view os) run) object here
      → (done : List ℕ) × (done ++ rest ≡ uses) × ((x : Told) → (IsIn before x → IsTold m now object (map placed_view os) done x) × (IsTold m now object (map placed_view os) done x → IsIn before x))
      → (done : List ℕ) × (done ++ after ≡ uses) × ((x : Told) → (IsIn made x → IsTold m now object (map placed_view os) done x) × (IsTold m now object (map placed_view os) done x → IsIn made x))
  run_more uses rest run after d here before made within split some run_is is added so_far =
      let us = map placed_view os in
      let inside = in_front (λ i. i < length os) run after rest split within in
      let at = asked_at os run 0 d inside some in
      let place : here ≡ run_is.0 = is ∙ run_is.2 (get_or run 0 0) (placed_view (get_or os (get_or run 0 0) d)) (some_first run some) at in (
        so_far.0 ++ run,
        append_assoc so_far.0 run after ∙ ap (λ (l : List ℕ). so_far.0 ++ l) (sym split) ∙ so_far.1,
        one_run m now object us so_far.0 run run_is.0 before made run_is.1 (added ∙ ap (λ (p : Place). before ++ told_at m now (picked us run) object p) place) so_far.2,
      )

  -- ---- ranks

  list_in : (ranks : List (Vec ℕ Global)) (k : ℕ) (v : Vec ℕ Global) → k < length ranks → v ≡ get_or ranks k v → slice_get (lists_view ranks) k ≡ Some v.items
  list_in [] k v less is = absurd (omega arith)
  list_in (w ∷ ranks) zero v less is = ap (λ (x : Vec ℕ Global). Some x.items) (sym is)
  list_in (w ∷ ranks) (suc k) v less is = list_in ranks k v (omega arith) is

  three_ways : (j k : ℕ) → (j < k) ⊎ ((j ≡ k) ⊎ (k < j))
  three_ways zero zero = inr (inl refl)
  three_ways zero (suc k) = inl (omega arith)
  three_ways (suc j) zero = inr (inr (omega arith))
  three_ways (suc j) (suc k) = elim (three_ways j k) [
    | inl l ↦ inl (omega arith)
    | inr (inl e) ↦ inr (inl (ap suc e))
    | inr (inr g) ↦ inr (inr (omega arith))
  ]

  -- nothing is told of the lists before one
  abbrev pub NoneBefore : List (Vec ℕ Global) → ℕ → Type 0
  NoneBefore ranks k = (j : ℕ) (before : List ℕ) (y : Told) → j < k → slice_get (lists_view ranks) j ≡ Some before → IsTold m now object (map placed_view os) before y → ⊥

  -- a list of which something is told, where nothing is told of those before it
  pub first_is : (ranks : List (Vec ℕ Global)) (k : ℕ) (v : Vec ℕ Global) (told : List Told) (some : Told) → k < length ranks → v ≡ get_or ranks k v → NoneBefore ranks k → IsIn told some
      → ((x : Told) → (IsIn told x → IsTold m now object (map placed_view os) v.items x) × (IsTold m now object (map placed_view os) v.items x → IsIn told x))
      → (x : Told) → (IsIn told x → IsToldFirst m now object (map placed_view os) (lists_view ranks) x) × (IsToldFirst m now object (map placed_view os) (lists_view ranks) x → IsIn told x)
  first_is ranks k v told some less is none here all x =
      let at = list_in ranks k v less is in (
        λ h. (k, v.items, at, (all x).0 h, none),
        λ t. elim (three_ways t.0 k) [
          | inl before ↦ absurd (none t.0 t.1 x before t.2 t.3)
          | inr (inl same) ↦ (
              let lists : Some v.items ≡ Some t.1 = sym at ∙ ap (slice_get (lists_view ranks)) (sym same) ∙ t.2 in
              let list : v.items ≡ t.1 = cc in
              (all x).1 (subst (λ (l : List ℕ). IsTold m now object (map placed_view os) l x) (sym list) t.3)
              )
          | inr (inr later) ↦ absurd (t.4 k v.items some later at ((all some).0 here))
        ],
      )

  -- one list more of which nothing is told
  pub none_more : (ranks : List (Vec ℕ Global)) (k : ℕ) (v : Vec ℕ Global) (told : List Told) → k < length ranks → v ≡ get_or ranks k v → told ≡ [] → NoneBefore ranks k
      → ((x : Told) → (IsIn told x → IsTold m now object (map placed_view os) v.items x) × (IsTold m now object (map placed_view os) v.items x → IsIn told x))
      → NoneBefore ranks (k + 1)
  none_more ranks k v told less is empty none all j before y small at t =
      elim (three_ways j k) [
        | inl earlier ↦ none j before y earlier at t
        | inr (inl same) ↦ (
            let lists : Some v.items ≡ Some before = sym (list_in ranks k v less is) ∙ ap (slice_get (lists_view ranks)) (sym same) ∙ at in
            let list : v.items ≡ before = cc in
            subst (λ (l : List Told). IsIn l y) empty ((all y).1 (subst (λ (l : List ℕ). IsTold m now object (map placed_view os) l y) (sym list) t))
            )
        | inr (inr later) ↦ absurd (omega arith)
      ]

  lists_length : (ranks : List (Vec ℕ Global)) (k : ℕ) (is : List ℕ) → slice_get (lists_view ranks) k ≡ Some is → k < length ranks
  lists_length [] k is e = absurd (cc)
  lists_length (w ∷ ranks) zero is e = omega arith
  lists_length (w ∷ ranks) (suc k) is e = let less : k < length ranks = lists_length ranks k is e in omega arith

  -- nothing is told of any
  pub none_is : (ranks : List (Vec ℕ Global)) (k : ℕ) (told : List Told) → length ranks ≤ k → told ≡ [] → NoneBefore ranks k
      → (x : Told) → (IsIn told x → IsToldFirst m now object (map placed_view os) (lists_view ranks) x) × (IsToldFirst m now object (map placed_view os) (lists_view ranks) x → IsIn told x)
  none_is ranks k told end empty none x = (
    λ h. absurd (subst (λ (l : List Told). IsIn l x) empty h),
    λ t. let less : t.0 < length ranks = lists_length ranks t.0 t.1 t.2 in absurd (none t.0 t.1 x (omega arith) t.2 t.3),
  )

  -- a list tells what is told of uses, and nothing else
  abbrev pub TellsAll : List ℕ → List Told → Type 0
  TellsAll is told = (x : Told) → (IsIn told x → IsTold m now object (map placed_view os) is x) × (IsTold m now object (map placed_view os) is x → IsIn told x)

pub some_told : (v : List failure.LocalFailure) → (length v ≡ 0 → ⊥) → (x : Told) × IsIn (map told_view v) x
some_told [] some = absurd (some refl)
some_told (f ∷ v) some = (told_view f, inl refl)

pub none_told : (v : List failure.LocalFailure) → length v ≡ 0 → map told_view v ≡ []
none_told [] none = refl
none_told (f ∷ v) none = absurd (omega (arith, none))
