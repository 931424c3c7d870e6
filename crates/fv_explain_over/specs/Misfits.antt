-- What is told of a narrowing, but for why.
use Rattle.std.specs.Prelude.{◌≡◌, ℕ, List, [], ◌∷◌, ◌++◌, Bool, false, Option, Some, None, option_map, unwrap_or, is_some, if◌then◌else◌, slice_get, codes}
use Rattle.std.specs.Option.{option_map_or}
use Rattle.fv_datum.specs.Lookup.{at_name}
use Rattle.fv_bundle.specs.Held.{target, items, values, content}
use Rattle.fv_bundle.specs.Names.{ObjectTypes}
use Rattle.fv_bundle.specs.Types.{TypeUse, references, lists, maps, optionals, Declared, name_at, fields_at}
use Rattle.fv_explain_over.specs.Places.{place_of}
use Rattle.fv_widening.specs.declared.narrowing.Narrowed.{Narrowed}
use Rattle.fv_widening.specs.declared.narrowing.Narrowed.TheVariants as is

-- the name of the number among names that have something each; empty where there is none
abbrev pub key_at : {X : Type 0} → List (List ℕ × X) → ℕ → List ℕ
key_at es n = unwrap_or (option_map (λ e. e.0) (slice_get es n)) []

-- the names that lead to what is narrowed of types and forms
abbrev pub names_to : Declared → ObjectTypes → Narrowed → List (List ℕ)
names_to types forms (is.Type t) = codes "types" ∷ name_at types t ∷ []
names_to types forms (is.Field t f) = codes "types" ∷ name_at types t ∷ codes "fields" ∷ key_at (fields_at types t) f ∷ []
names_to types forms (is.Use t f) = codes "types" ∷ name_at types t ∷ codes "fields" ∷ key_at (fields_at types t) f ∷ codes "type" ∷ []
names_to types forms (is.Form f) = codes "forms" ∷ key_at forms f ∷ []
names_to types forms (is.Root f) = codes "forms" ∷ key_at forms f ∷ codes "root" ∷ []

-- both refer to objects, as far as both are lists, maps or optionals alike
abbrev pub both_refer : TypeUse → TypeUse → Bool
both_refer (references type) v = is_some (target v)
both_refer (lists u) v = option_map_or (both_refer u) (items v) false
both_refer (maps u) v = option_map_or (both_refer u) (values v) false
both_refer (optionals u) v = option_map_or (both_refer u) (content v) false
both_refer _ v = false

-- what the field of a name holds, of the type of a name
abbrev pub use_of : Declared → List ℕ → List ℕ → Option TypeUse
use_of types type field = option_map_or (at_name field) (at_name type types) None

-- the code and the name of the fault by which a field's data is refused that was written under another type use
abbrev pub use_fault : Option TypeUse → Option TypeUse → List ℕ × List ℕ
use_fault (Some u) (Some v) = if both_refer u v then (codes "B7", codes "RefType") else (codes "B5", codes "WrongKind")
use_fault _ _ = (codes "B5", codes "WrongKind")

-- the code and the name of the fault by which a redeclare tells what is narrowed of types
abbrev pub fault_of : Declared → Declared → Narrowed → List ℕ × List ℕ
fault_of old new (is.Type t) = (codes "B3", codes "UnknownType")
fault_of old new (is.Field t f) = (codes "B4", codes "UnknownField")
fault_of old new (is.Use t f) =
    use_fault (option_map (λ e. e.1) (slice_get (fields_at old t) f)) (use_of new (name_at old t) (key_at (fields_at old t) f))
fault_of old new (is.Form f) = (codes "C4", codes "UnknownForm")
fault_of old new (is.Root f) = (codes "B9", codes "RootType")

-- the line of a place, a fault's code and name, and why
abbrev pub misfit_text : List ℕ → List ℕ × List ℕ → List ℕ → List ℕ
misfit_text place fault why =
    codes "may not fit: " ++ (place ++ (codes ": " ++ (fault.0 ++ (codes " " ++ (fault.1 ++ (codes ": " ++ why))))))

-- the line of what is narrowed of types and forms, with some reason
abbrev pub IsMisfit : Declared → ObjectTypes → Declared → Narrowed → List ℕ → Type 0
IsMisfit old forms new narrowed line =
    (why : List ℕ) × (line ≡ misfit_text (place_of (names_to old forms narrowed)) (fault_of old new narrowed) why)
