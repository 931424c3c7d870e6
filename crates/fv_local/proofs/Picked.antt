-- Uses by their numbers.
use Rattle.std.proofs.Common.{◌≡◌, ◌<◌, ℕ, ℤ, zero, suc, ◌+◌, List, [], ◌∷◌, ◌++◌, map, length, get_or, take, Option, Some, None, slice_get, filter_map, refl, sym, ap, subst, ◌∙◌, append-nil, arith}
use Rattle.std.proofs.lemmas.Grind.{flat_map-append}
use Rattle.std.proofs.lemmas.List.{take_more}
use Rattle.std.specs.List.{All, AllByRecursion, cons_option}
use Rattle.fv_declare_schema.specs.Declarations.{Placed}
use Rattle.fv_declare_schema.specs.PlacedView.{placed_view}
use Rattle.fv_declare_schema.specs.declared.place.Placed as code
use Rattle.fv_constraint_tree.specs.Says.{Subject}
use Rattle.fv_registry.specs.Meanings.{Meanings}
use Rattle.fv_constraint_tree.specs.Reports.{violated}
use Rattle.fv_local.specs.Told.{picked, numbers_of}
use Rattle.fv_local.proofs.Reports.{number, numbers_up}

-- the use of a number that there is
pub use_at : (os : List code.Placed) (i : ℕ) (d : code.Placed) → i < length os → slice_get (map placed_view os) i ≡ Some (placed_view (get_or os i d))
use_at [] i d less = absurd (omega arith)
use_at (o ∷ os) zero d less = refl
use_at (o ∷ os) (suc i) d less = use_at os i d (omega arith)

-- what each of a list has, at one of them
pub all_at : {X : Type 0} (P : X → Type 0) (xs : List X) (i : ℕ) (x : X) → AllByRecursion P xs → slice_get xs i ≡ Some x → P x
all_at P [] i x all is = absurd (cc)
all_at P (y ∷ xs) zero x all is = subst P (cc) all.0
all_at P (y ∷ xs) (suc i) x all is = all_at P xs i x all.1 is

filter_map-more : {X Y : Type 0} (f : X → Option Y) (xs : List X) (x : X) (y : Y) → f x ≡ Some y → filter_map f (xs ++ x ∷ []) ≡ filter_map f xs ++ y ∷ []
filter_map-more {X} {Y} f [] x y is = ap (λ o. cons_option o []) is
filter_map-more {X} {Y} f (z ∷ xs) x y is = go (f z) (filter_map-more f xs x y is)
  where
    go : (o : Option Y) → filter_map f (xs ++ x ∷ []) ≡ filter_map f xs ++ y ∷ [] → cons_option o (filter_map f (xs ++ x ∷ [])) ≡ cons_option o (filter_map f xs) ++ y ∷ []
    go None rest = rest
    go (Some w) rest = ap (λ (l : List Y). w ∷ l) rest

-- one use more
pub picked_more : (us : List Placed) (is : List ℕ) (k i : ℕ) (u : Placed) → k < length is → get_or is k i ≡ i → slice_get us i ≡ Some u → picked us (take (k + 1) is) ≡ picked us (take k is) ++ u ∷ []
picked_more us is k i u less at there =
    ap (filter_map (slice_get us)) (take_more is k i less ∙ ap (λ (j : ℕ). take k is ++ j ∷ []) at) ∙ filter_map-more (slice_get us) (take k is) i u there

-- the numbers that one use more reports
pub numbers_more : (m : Meanings) (now : ℤ) (s : Subject) (us before : List Placed) (u : Placed) → us ≡ before ++ u ∷ []
    → numbers_of m now s us ≡ numbers_of m now s before ++ numbers_of m now s (u ∷ [])
numbers_more m now s us before u is = ap (numbers_of m now s) is ∙ flat_map-append _ before (u ∷ [])

-- the use of a number that is asked
pub asked_at : (os : List code.Placed) (asked : List ℕ) (k : ℕ) (d : code.Placed) → All (λ i. i < length os) asked → k < length asked
    → slice_get (map placed_view os) (get_or asked k 0) ≡ Some (placed_view (get_or os (get_or asked k 0) d))
asked_at os asked k d within less = use_at os (get_or asked k 0) d (within k 0 less)

pub same_default : {X : Type 0} (xs : List X) (k : ℕ) (d e : X) → k < length xs → get_or xs k d ≡ get_or xs k e
same_default [] k d e less = absurd (omega arith)
same_default (x ∷ xs) zero d e less = refl
same_default (x ∷ xs) (suc k) d e less = same_default xs k d e (omega arith)

-- the numbers that uses report, with those of one use more
pub numbers_grow : (m : Meanings) (now : ℤ) (s : Subject) (us : List Placed) (asked : List ℕ) (k : ℕ) (u : Placed) (ns : List ℕ) → k < length asked → slice_get us (get_or asked k 0) ≡ Some u
    → ns ≡ map (λ n. u.number + n) (map number (violated m now s 0 u.tree))
    → numbers_of m now s (picked us (take k asked)) ++ ns ≡ numbers_of m now s (picked us (take (k + 1) asked))
numbers_grow m now s us asked k u ns less there is =
    let i = get_or asked k 0 in
    let one : ns ≡ numbers_of m now s (u ∷ []) = is ∙ sym (numbers_up m now s u) ∙ sym (append-nil (map number (violated m now s u.number u.tree))) in
    ap (λ (l : List ℕ). numbers_of m now s (picked us (take k asked)) ++ l) one
    ∙ sym (numbers_more m now s (picked us (take (k + 1) asked)) (picked us (take k asked)) u (picked_more us asked k i u less (same_default asked k i 0 less) there))
