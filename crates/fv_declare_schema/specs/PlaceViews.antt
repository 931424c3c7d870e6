-- The places that contracts see.
use Rattle.std.specs.Prelude.{map}
use Rattle.fv_extract.specs.Views.{step_view}
use Rattle.fv_declare_schema.specs.Places as spec
use Rattle.fv_declare_schema.specs.declared.place.Place.{Place}
use Rattle.fv_declare_schema.specs.declared.place.Place.TheVariants as place

-- where a use stands
abbrev pub place_view : Place → spec.Place
place_view place.Whole = spec.whole
place_view (place.Field number steps kind) = spec.field number (map step_view steps.items) kind
