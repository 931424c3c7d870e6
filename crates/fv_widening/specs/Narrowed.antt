-- What declarations narrow of others, by numbers in the order of the others.
use Rattle.std.specs.Prelude.{ℕ, suc, List, [], ◌∷◌, ◌++◌, slice_get, Option, Some, None, option_map, if◌then◌else◌}
use Rattle.std.specs.Option.{option_map_or}
use Rattle.std.specs.Str.{bytes_eq}
use Rattle.fv_datum.specs.Lookup.{at_name}
use Rattle.fv_bundle.specs.Types.{TypeUse, DeclaredFields, Declared, name_at}
use Rattle.fv_widening.specs.Same.{is_same}
use Rattle.fv_widening.specs.Widens.{Forms}
use Rattle.fv_widening.specs.declared.narrowing.Narrowed.{Narrowed}
use Rattle.fv_widening.specs.declared.narrowing.Narrowed.TheVariants as is

-- all that is found of the elements of a list, the first of which has this number
abbrev pub found_from : {X P : Type 0} → (ℕ → X → List P) → ℕ → List X → List P
found_from f n [] = []
found_from f n (x ∷ xs) = f n x ++ found_from f (suc n) xs

-- what is there
abbrev pub found_in : {P : Type 0} → Option P → List P
found_in None = []
found_in (Some p) = p ∷ []

-- of a field, by the numbers of its type and its own: that it isn't there, or that it holds something else
abbrev pub use_narrowed : ℕ → ℕ → TypeUse → Option TypeUse → Option Narrowed
use_narrowed type number u None = Some (is.Field type number)
use_narrowed type number u (Some v) = if is_same u v then None else Some (is.Use type number)

-- the same, by its name among the fields that are there
abbrev pub field_narrowed : ℕ → DeclaredFields → ℕ → List ℕ × TypeUse → List Narrowed
field_narrowed type there number f = found_in (use_narrowed type number f.1 (at_name f.0 there))

-- of the fields of a type
abbrev pub fields_narrowed : ℕ → DeclaredFields → DeclaredFields → List Narrowed
fields_narrowed type old there = found_from (field_narrowed type there) 0 old

-- of a type by its number: that it isn't there, or what is narrowed of its fields
abbrev pub type_narrowed : ℕ → DeclaredFields → Option DeclaredFields → List Narrowed
type_narrowed number old None = is.Type number ∷ []
type_narrowed number old (Some there) = fields_narrowed number old there

-- the same, by its name among the types that are there
abbrev pub named_narrowed : Declared → ℕ → List ℕ × DeclaredFields → List Narrowed
named_narrowed new number t = type_narrowed number t.1 (at_name t.0 new)

-- the same, of the type of a number; nothing where there is none
abbrev pub numbered_narrowed : Declared → Declared → ℕ → List Narrowed
numbered_narrowed old new number =
    option_map_or (λ fields. type_narrowed number fields (at_name (name_at old number) new))
    (option_map (λ t. t.1) (slice_get old number)) []

-- of the types
abbrev pub types_narrowed : Declared → Declared → List Narrowed
types_narrowed old new = found_from (named_narrowed new) 0 old

-- of a form by its number, with its root: that it isn't there, or that its root is of another type
abbrev pub root_narrowed : ℕ → List ℕ → Option (List ℕ) → Option Narrowed
root_narrowed number root None = Some (is.Form number)
root_narrowed number root (Some other) = if bytes_eq root other then None else Some (is.Root number)

-- the same, by its name among the forms that are there
abbrev pub form_narrowed : Forms → ℕ → List ℕ × List ℕ → List Narrowed
form_narrowed new number f = found_in (root_narrowed number f.1 (at_name f.0 new))

-- of the forms
abbrev pub forms_narrowed : Forms → Forms → List Narrowed
forms_narrowed old new = found_from (form_narrowed new) 0 old

-- of the types, and behind them of the forms
abbrev pub narrowed : Declared → Forms → Declared → Forms → List Narrowed
narrowed old forms new new_forms = types_narrowed old new ++ forms_narrowed forms new_forms
