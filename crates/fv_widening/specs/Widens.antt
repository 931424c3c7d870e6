-- Declarations that have all that others have.
use Rattle.std.specs.Prelude.{◌≡◌, ℕ, List, Some}
use Rattle.fv_datum.specs.Lookup.{at_name}
use Rattle.fv_bundle.specs.Types.{DeclaredFields, Declared}

-- each name is there, with the same
abbrev pub HasAll : {X : Type 0} → List (List ℕ × X) → List (List ℕ × X) → Type 0
HasAll {X = X} old new = (name : List ℕ) (x : X) → at_name name old ≡ Some x → at_name name new ≡ Some x

-- each type is there, with all its fields, which hold the same; there may be more types, and more fields
abbrev pub HasTypes : Declared → Declared → Type 0
HasTypes old new = (type : List ℕ) (fields : DeclaredFields) → at_name type old ≡ Some fields
    → (more : DeclaredFields) × (at_name type new ≡ Some more) × HasAll fields more

-- forms by their names, each with the name of its root's type
abbrev pub Forms : Type 0
Forms = List (List ℕ × List ℕ)

-- so are the types there, and each form with a root of the same type
abbrev pub Widens : Declared → Forms → Declared → Forms → Type 0
Widens old forms new new_forms = HasTypes old new × HasAll forms new_forms
