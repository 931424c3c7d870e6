-- Objects with a datum in one field.
use Rattle.std.specs.Prelude.{ℕ, List, map, cond, is_some, Option, option_map}
use Rattle.std.specs.Str.{bytes_eq}
use Rattle.fv_datum.specs.Data.{Data, null}
use Rattle.fv_datum.specs.Lookup.{at_name}
use Rattle.fv_datum.specs.Written.{written}
use Rattle.fv_bundle.specs.Types.{TypeUse, Declared, name_at, fields_at}
use Rattle.fv_bundle.specs.Bundles.{Thing}

-- a datum that can be written; null for another, which no object holds
abbrev pub kept : Data → Data
kept d = cond (is_some (written d)) d null

-- a field with its datum: this one where the field has the name, and null elsewhere
abbrev pub single_field : List ℕ → Data → List ℕ × TypeUse → List ℕ × Data
single_field name d f = (f.0, cond (bytes_eq name f.0) d null)

-- the object of the type of a number with a datum in the field of that name, and null in the others
abbrev pub single_thing : Declared → ℕ → List ℕ → Data → Thing
single_thing ts type name d = record { type_name = name_at ts type; fields = map (single_field name d) (fields_at ts type) }

-- the same; none where the type has no such field
abbrev pub single_of : Declared → ℕ → List ℕ → Data → Option Thing
single_of ts type name d = option_map (λ _. single_thing ts type name d) (at_name name (fields_at ts type))
