-- The numbered groups that contracts see.
use Rattle.std.specs.Prelude.{ℕ, List, map, Option, option_map, Vec}
use Rattle.std.specs.declared.alloc.Global.{Global}
use Rattle.fv_extract.specs.Views.{step_view}
use Rattle.fv_declare_schema.specs.Tables.{indices}
use Rattle.fv_declare_schema.specs.declared.declared.GroupId.{GroupId}
use Rattle.fv_declare_schema.specs.ValidPlaces as spec
use Rattle.fv_declare_schema.specs.declared.place.GroupConversion.{GroupConversion}
use Rattle.fv_declare_schema.specs.declared.place.ValidPlace.{ValidPlace}

-- a group with the one that it is converted to
abbrev pub conversion_numbers : GroupConversion → ℕ × ℕ
conversion_numbers c = (c.from.index, c.to.index)

-- a place whose objects are validated
abbrev pub valid_place_view : ValidPlace → spec.ValidPlace
valid_place_view p = record {
  type = p.type_index;
  field = p.field;
  steps = map step_view p.steps.items;
  conversions = map conversion_numbers p.conversions.items;
}

-- for each type the ranks of its sequence, if it has one
abbrev pub sequences_view : List (Option (Vec GroupId Global)) → List (Option (List ℕ))
sequences_view = map (option_map (λ v. indices v.items))
