-- The use that a placed occurrence is.
use Rattle.fv_declare_schema.specs.Declarations as spec
use Rattle.fv_declare_schema.specs.Tables.{indices}
use Rattle.fv_declare_schema.specs.PlaceViews.{place_view}
use Rattle.fv_declare_schema.specs.declared.place.Placed.{Placed}

-- the use that a placed occurrence is
abbrev pub placed_view : Placed → spec.Placed
placed_view o = record { type = o.type_id.index; place = place_view o.place; number = o.number; groups = indices o.groups.items; tree = o.occurrence }
