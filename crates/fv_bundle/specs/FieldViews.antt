-- The values of declared types and of a field.
pub use Rattle.fv_bundle.specs.TypesView.{types_view}
use Rattle.std.specs.Prelude.{ℕ, List, map, zip, string_bytes}
use Rattle.std.specs.Borrow.{Bor}
use Rattle.std.specs.Slice.Iter.{iter_rest}
use Rattle.fv_datum.specs.Data.{Data}
use Rattle.fv_datum.specs.View.{view}
use Rattle.fv_datum.specs.declared.datum.Datum.{Datum}
use Rattle.fv_bundle.specs.declared.fields.ObjectFields.{ObjectFields}

-- a field's name with its datum
abbrev pub field_view : Bor (List ℕ) × Bor Datum → List ℕ × Data
field_view f = (f.0.now, view f.1.now)

-- the fields that an iterator over an object's fields has left
abbrev pub fields_left : ObjectFields → List (List ℕ × Data)
fields_left f = zip (map string_bytes f.names) (map view (iter_rest f.data))
