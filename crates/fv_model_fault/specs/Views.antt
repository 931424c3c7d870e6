-- The places that contracts see.
use Rattle.std.specs.Prelude.{ℕ, List, map, option_map}
use Rattle.std.specs.Borrow.{Bor}
use Rattle.serde_json.specs.Data as json
use Rattle.serde_json.specs.View.{view as json_view}
use Rattle.serde_json.specs.declared.value.Value.{Value}
use Rattle.fv_bundle.specs.Types.{type_use_view}
use Rattle.fv_model_fault.specs.Places as spec
use Rattle.fv_model_fault.specs.declared.place.Inner.{Inner}
use Rattle.fv_model_fault.specs.declared.place.Inner.TheVariants as code
use Rattle.fv_model_fault.specs.SetPlaces as set
use Rattle.fv_model_fault.specs.declared.place.FaultPlace.{FaultPlace}
use Rattle.fv_model_fault.specs.declared.place.SetPlace.{SetPlace}
use Rattle.fv_model_fault.specs.declared.place.SetPlace.TheVariants as setting

-- a member: its name with its value
abbrev pub member_view : Bor (List ℕ) × Bor Value → List ℕ × json.Data
member_view m = (m.0.now, json_view m.1.now)

-- a step
abbrev pub inner_view : Inner → spec.Inner
inner_view (code.Item i) = spec.item i
inner_view (code.Member name) = spec.member name.now

-- a place
abbrev pub place_view : FaultPlace → spec.Place
place_view p = record {
  object = option_map (λ s. s.now) p.object;
  field = option_map (λ s. s.now) p.field;
  steps = map inner_view p.steps.items;
  value = json_view p.value.now;
  type_use = option_map (λ u. type_use_view u.now) p.type_use;
}

-- a place of a set
abbrev pub set_place_view : SetPlace → set.SetPlace
set_place_view setting.Object = set.at_object
set_place_view setting.Field = set.at_field
set_place_view (setting.Datum p) = set.in_datum (place_view p)
