-- Where a set of a bundle's datum has a fault.
use Rattle.std.specs.Prelude.{◌≡◌, ℕ, List, map, Some, None}
use Rattle.serde_json.specs.Data as json
use Rattle.fv_bundle.specs.Bundles.{Bundled, Thing}
use Rattle.fv_datum.specs.Lookup.{at_name}
use Rattle.fv_model.specs.Setting.{field_use_of}
use Rattle.fv_model.specs.declared.fault.BundleFault.{BundleFault}
use Rattle.fv_model.specs.declared.fault.BundleFault.TheVariants.{UnknownField, NoObject}
use Rattle.fv_bundle.specs.Names.{ObjectTypes}
use Rattle.fv_bundle.specs.Types.{TypeUse, Declared}
use Rattle.fv_model_fault.specs.Places.{Place, IsAlone}
use Rattle.fv_model_fault.specs.Sought.{HasFlaw, flaw_of}

-- a place of a set: the object or the field that it names, or one in its datum
pub data SetPlace : Type 0 where
  at_object : SetPlace
  at_field : SetPlace
  in_datum : Place → SetPlace

-- the names of the objects of a bundle, each with the name of its type
abbrev pub types_of : Bundled → ObjectTypes
types_of b = map (λ o. (o.0, o.1.type_name)) b.objects

-- the object and its field are there, and the place in the datum has the flaw
pub record IsInDatum (ts : Declared) (b : Bundled) (object field : List ℕ) (j : json.Data) (fault : BundleFault) (p : Place) : Type 0 where
  pub thing : Thing
  pub held : TypeUse
  pub there : at_name object b.objects ≡ Some thing
  pub declared : field_use_of ts field thing ≡ Some held
  pub flawed : HasFlaw (flaw_of fault (types_of b)) (Some held) j p
  pub alone : IsAlone p

-- a place of a set has the fault
abbrev pub IsInSet : Declared → Bundled → List ℕ → List ℕ → json.Data → BundleFault → SetPlace → Type 0
IsInSet ts b object field j fault at_object = (fault ≡ NoObject) × (at_name object b.objects ≡ None)  -- B10: there is no such object
IsInSet ts b object field j fault at_field =  -- B4: there is, and its type doesn't have the field
    (thing : Thing) × (fault ≡ UnknownField) × (at_name object b.objects ≡ Some thing) × (field_use_of ts field thing ≡ None)
IsInSet ts b object field j fault (in_datum p) = IsInDatum ts b object field j fault p  -- B5 to B8
