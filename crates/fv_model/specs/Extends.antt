-- Types to which others were added.
use Rattle.std.specs.Prelude.{◌≡◌, ℕ, List, Some}
use Rattle.fv_datum.specs.Lookup.{at_name}
use Rattle.fv_bundle.specs.Types.{TypeUse, DeclaredFields, Declared}

-- each field is there with what it holds
abbrev pub HasFields : DeclaredFields → DeclaredFields → Type 0
HasFields old new = (name : List ℕ) (u : TypeUse) → at_name name old ≡ Some u → at_name name new ≡ Some u

-- each type is there, with all its fields
abbrev pub Extends : Declared → Declared → Type 0
Extends old new = (type : List ℕ) (fields : DeclaredFields) → at_name type old ≡ Some fields
    → (more : DeclaredFields) × (at_name type new ≡ Some more) × HasFields fields more
