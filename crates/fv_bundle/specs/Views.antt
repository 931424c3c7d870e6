-- The values that contracts see.
pub use Rattle.fv_bundle.specs.FieldViews.{types_view, field_view, fields_left}
use Rattle.std.specs.Prelude.{ℕ, List, map, zip, String, string_bytes}
use Rattle.std.specs.Map.{keys_of}
use Rattle.fv_datum.specs.Data.{Data}
use Rattle.fv_datum.specs.View.{view}
use Rattle.std.specs.declared.alloc.Global.{Global}
use Rattle.fv_bundle.specs.Types.{Declared, TextMap, name_at, fields_at}
use Rattle.fv_bundle.specs.Bundles.{Thing, Things, Bundled}
use Rattle.fv_bundle.specs.declared.bundle.Object.{Object}
use Rattle.fv_bundle.specs.declared.bundle.Bundle.{Bundle}

-- an object of the type of a number: the type's name, and the names of the type's fields with these data
abbrev pub thing_of : Declared → ℕ → List Data → Thing
thing_of ts n ds = record { type_name = name_at ts n; fields = zip (keys_of (fields_at ts n)) ds }

-- an object: its type's name, and the names of the type's fields with its data
abbrev pub object_view : Object → Thing
object_view o = thing_of (types_view o.types) o.type_id.index (map view o.data.items)

-- an object with its name
abbrev pub named_view : String Global × Object → List ℕ × Thing
named_view e = (string_bytes e.0, object_view e.1)

-- the objects that a map has
abbrev pub objects_view : TextMap Object → Things
objects_view m = map named_view m.entries

-- a bundle
abbrev pub bundle_view : Bundle → Bundled
bundle_view b = record { root = string_bytes b.root; objects = objects_view b.objects }
