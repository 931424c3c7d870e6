-- Groups by their names.
use Rattle.std.proofs.Common.{◌≡◌, ℕ, List, [], ◌∷◌, Bool, true, false, not, ◌||◌, if◌then◌else◌, Option, Some, None, is_some, option_map, option_and_then, filter_map, refl, ap, ◌∙◌}
use Rattle.std.specs.List.{list_any, cons_option}
use Rattle.fv_datum.specs.Members.{each_some}
use Rattle.fv_declare_schema.specs.Groups.{Groups, group_number, numbers_of}
use Rattle.fv_declare_schema.specs.Judged.{unknown_group_in}

-- ---- names, of which each is a group's or some are not

module _ {X Y : Type 0} (f : X → Option Y) where
  known_more : (o : Option Y) (rest : Option (List Y)) (unknown : Bool) (ys : List Y) → rest ≡ (if unknown then None else Some ys)
      → option_and_then (λ y. option_map (λ zs. y ∷ zs) rest) o ≡ (if not (is_some o) || unknown then None else Some (cons_option o ys))
  known_more None rest unknown ys is = refl
  known_more (Some y) rest true ys is = ap (option_map (λ zs. y ∷ zs)) is
  known_more (Some y) rest false ys is = ap (option_map (λ zs. y ∷ zs)) is

  each_known : (xs : List X) → each_some f xs ≡ (if list_any (λ x. not (is_some (f x))) xs then None else Some (filter_map f xs))
  each_known [] = refl
  each_known (x ∷ xs) = known_more (f x) (each_some f xs) (list_any (λ x. not (is_some (f x))) xs) (filter_map f xs) (each_known xs)

all_there : (unknown : Bool) (ns ms : List ℕ) → Some ns ≡ (if unknown then None else Some ms) → (unknown ≡ false) × (ns ≡ ms)
all_there true ns ms is = let never : Some ns ≡ None = is in absurd cc
all_there false ns ms is = let some : Some ns ≡ Some ms = is in (refl, cc)

one_lacks : (unknown : Bool) (ms : List ℕ) → None ≡ (if unknown then None else Some ms) → unknown ≡ true
one_lacks true ms is = refl
one_lacks false ms is = let never : None ≡ Some ms = is in absurd cc

-- where each name is a group's, these are their numbers
pub all_named : (gs : Groups) (names : List (List ℕ)) (ns : List ℕ) → Some ns ≡ each_some (group_number gs) names → (unknown_group_in gs names ≡ false) × (ns ≡ numbers_of gs names)
all_named gs names ns is = all_there (unknown_group_in gs names) ns (numbers_of gs names) (is ∙ each_known (group_number gs) names)

-- else one is no group's
pub not_named : (gs : Groups) (names : List (List ℕ)) → None ≡ each_some (group_number gs) names → unknown_group_in gs names ≡ true
not_named gs names is = one_lacks (unknown_group_in gs names) (numbers_of gs names) (is ∙ each_known (group_number gs) names)
