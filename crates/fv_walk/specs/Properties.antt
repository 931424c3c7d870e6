-- What fails in one field of one object: the object stands for the root, and nothing else is there.
use Rattle.std.specs.Prelude.{◌≡◌, ℕ, ℤ, List, [], ◌∷◌, Option, Some, option_and_then, position}
use Rattle.std.specs.Str.{bytes_eq}
use Rattle.fv_datum.specs.Lookup.{at_name}
use Rattle.fv_declare_schema.specs.Declarations.{Declarations}
use Rattle.fv_bundle.specs.Bundles.{Thing, Bundled}
use Rattle.fv_registry.specs.Meanings.{Meanings}
use Rattle.fv_local.specs.Requests.{request_of}
use Rattle.fv_walk_traces.specs.OneField.{IsViolationOfField}
use Rattle.fv_walk_traces.specs.Violations.{Violation}
use Rattle.fv_bundle.specs.Types.{Declared}

-- the bundle of this object alone, which is its root, under the empty name: no path tells a root's name
abbrev pub alone : Thing → Bundled
alone object = record { root = []; objects = ([], object) ∷ [] }

-- the number of the field of a name in the type of a name; none where the type isn't declared, or has no such field
abbrev pub field_number : Declared → List ℕ → List ℕ → Option ℕ
field_number ts type name = option_and_then (position (λ f. bytes_eq name f.0)) (at_name type ts)

-- a violation in the field of that name of an object, for groups that are asked for at a moment
abbrev pub IsViolationIn : Meanings → Declarations → ℤ → Thing → List ℕ → List ℕ → Violation → Type 0
IsViolationIn m ds now object name asked v =
    (n : ℕ) × (field_number ds.types object.type_name name ≡ Some n) × IsViolationOfField (request_of m ds now (alone object) asked) n v
