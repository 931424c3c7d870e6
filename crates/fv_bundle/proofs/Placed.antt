-- A place is found exactly where a fault's condition holds.
use Rattle.std.proofs.Common.{◌≡◌, ℕ, ◌+◌, List, [], ◌∷◌, length, Bool, true, false, ◌||◌, nat_lt, if◌then◌else◌, Option, Some, option_map, is_some, refl, ap, ◌∙◌, add-one}
use Rattle.std.specs.List.{list_any}
use Rattle.std.specs.Option.{option_or}
use Rattle.fv_first.specs.First.{first_from}
use Rattle.fv_first.proofs.Laws.{first_told, where_told, inner_told, map_told}
use Rattle.fv_bundle.specs.TypeLimits.{most_types, most_fields, most_nested}
use Rattle.fv_bundle.specs.Types.{DeclaredFields, Declared, nested, is_unknown, has_unknown_type, has_large_type, deep_in, has_deep, too_many}
use Rattle.fv_bundle.specs.Whereabouts.{deep_field, large_in, large_type_at, large_at, unknown_reference_at}
use Rattle.fv_bundle.specs.declared.fault.TypesAt.TheVariants as at

pub unknown_told : (ts : Declared) → is_some (unknown_reference_at ts) ≡ has_unknown_type ts
unknown_told ts = inner_told at.Field (λ t f. is_unknown ts f.1) (λ t. t.1) ts

-- what is found where a test holds, else what another finds
when_or : {P : Type 0} (b : Bool) (p : P) (o : Option P) → is_some (if b then Some p else o) ≡ (b || is_some o)
when_or true p o = refl
when_or false p o = refl

one_told : (n : ℕ) (fields : DeclaredFields) → is_some (large_in n fields) ≡ (nat_lt most_fields (length fields) || deep_in fields)
one_told n fields =
    when_or (nat_lt most_fields (length fields)) (at.Type n) (option_map (at.Field n) (deep_field fields))
    ∙ ap (λ b. nat_lt most_fields (length fields) || b) (map_told (at.Field n) (deep_field fields) ∙ where_told (λ f. nat_lt most_nested (nested f.1)) fields)

turned : (a b c d : Bool) → ((a || b) || (c || d)) ≡ ((a || c) || (b || d))
turned true b c d = refl
turned false true true d = refl
turned false true false d = refl
turned false false c d = refl

either_any : {X : Type 0} (s t : X → Bool) (xs : List X) → list_any (λ x. s x || t x) xs ≡ (list_any s xs || list_any t xs)
either_any s t [] = refl
either_any s t (x ∷ xs) = ap (λ b. (s x || t x) || b) (either_any s t xs) ∙ turned (s x) (t x) (list_any s xs) (list_any t xs)

type_told : (ts : Declared) → is_some (large_type_at ts) ≡ (has_large_type ts || has_deep ts)
type_told ts =
    first_told (λ n t. large_in n t.1) (λ t. nat_lt most_fields (length t.1) || deep_in t.1) (λ n t. one_told n t.1) 0 ts
    ∙ either_any (λ t. nat_lt most_fields (length t.1)) (λ t. deep_in t.1) ts

grouped : (a b c : Bool) → (a || (b || c)) ≡ ((a || b) || c)
grouped true b c = refl
grouped false b c = refl

pub large_told : (ts : Declared) → is_some (large_at ts) ≡ too_many ts
large_told ts =
    let over = nat_lt most_types (length ts) in
    when_or over at.Types (large_type_at ts) ∙ ap (λ b. over || b) (type_told ts) ∙ grouped over (has_large_type ts) (has_deep ts)
