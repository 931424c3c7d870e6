-- Places in the JSON of a bundle.
use Rattle.std.specs.Prelude.{◌≡◌, ℕ, List, [], Option, Some, None}
use Rattle.serde_json.specs.Data as json
use Rattle.fv_bundle.specs.Types.{TypeUse, lists, optionals}

-- one step: to the item of an index, from 0, of an array, or to the value of an object at a key
pub data Inner : Type 0 where
  item : ℕ → Inner
  member : List ℕ → Inner

-- a place: in an object, or of the bundle as a whole; in one of its fields, or of the object as a whole; the steps from the
-- field's datum, what stands there, and what that should be
pub record Place : Type 0 where
  pub object : Option (List ℕ)
  pub field : Option (List ℕ)
  pub steps : List Inner
  pub value : json.Data
  pub type_use : Option TypeUse

-- the bundle as a whole
abbrev pub of_bundle : json.Data → Place
of_bundle j = record { object = None; field = None; steps = []; value = j; type_use = None }

-- an object as a whole
abbrev pub of_object : List ℕ × json.Data → Place
of_object o = record { object = Some o.0; field = None; steps = []; value = o.1; type_use = None }

-- a place in no object's field
abbrev pub IsAlone : Place → Type 0
IsAlone p = (p.object ≡ None) × (p.field ≡ None)

-- what the items of a list are, or what an optional holds
abbrev pub item_use : TypeUse → Option TypeUse
item_use (lists held) = Some held
item_use (optionals held) = Some held
item_use _ = None
