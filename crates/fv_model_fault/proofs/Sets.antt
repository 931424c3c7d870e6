-- A set that is refused by a fault has it.
use Rattle.std.proofs.Common.{◌≡◌, ℕ, List, Bool, true, false, not, Option, Some, Err, is_some, refl, sym, ap, ◌∙◌}
use Rattle.serde_json.specs.Data as json
use Rattle.fv_bundle.specs.Bundles.{Bundled, Thing}
use Rattle.fv_bundle.specs.Replaced.{bundle_with}
use Rattle.fv_datum.specs.Lookup.{at_name}
use Rattle.fv_datum.specs.Outcomes.{first}
use Rattle.fv_model.specs.Setting.{field_use_of, is_flawed, set_conditions, datum_for, bundle_set}
use Rattle.fv_model.specs.declared.fault.BundleFault.{BundleFault}
use Rattle.fv_model.specs.declared.fault.BundleFault.TheVariants.{Shape, BadName, RootMissing, UnknownType, UnknownField, WrongKind, DanglingRef, RefType, TooLarge, RootType, NoObject, Memory}
use Rattle.fv_bundle.specs.Names.{ObjectTypes}
use Rattle.fv_bundle.specs.Types.{TypeUse, Declared}
use Rattle.fv_model_fault.specs.SetPlaces.{types_of}
use Rattle.fv_model_fault.specs.Sought.{flaw_of}
use Rattle.fv_model_fault.proofs.Firsts.{holds, fault_of}

-- a set of an object's datum has the fault
has_fault : Declared → ObjectTypes → List ℕ → json.Data → Option Thing → BundleFault → Bool
has_fault ts types field j there NoObject = not (is_some there)
has_fault ts types field j there UnknownField = is_flawed (flaw_of UnknownField types) ts field j there
has_fault ts types field j there WrongKind = is_flawed (flaw_of WrongKind types) ts field j there
has_fault ts types field j there DanglingRef = is_flawed (flaw_of DanglingRef types) ts field j there
has_fault ts types field j there RefType = is_flawed (flaw_of RefType types) ts field j there
has_fault ts types field j there TooLarge = is_flawed (flaw_of TooLarge types) ts field j there
has_fault ts types field j there _ = false

has : (ts : Declared) (b : Bundled) (object field : List ℕ) (j : json.Data) (fault : BundleFault) → bundle_set ts b object field j ≡ Err fault
    → has_fault ts (types_of b) field j (at_name object b.objects) fault ≡ true
unfolding has_fault
has ts b object field j fault is =
    let there = at_name object b.objects in
    holds (has_fault ts (types_of b) field j there) (set_conditions ts (types_of b) field j there) fault (refl, (refl, (refl, (refl, (refl, (refl, tt))))))
    (fault_of (first (set_conditions ts (types_of b) field j there)) (bundle_with object field (datum_for ts field j there) b) fault is)

-- of an object that is there
has_flaw : (ts : Declared) (types : ObjectTypes) (field : List ℕ) (j : json.Data) (t : Thing) (fault : BundleFault) → has_fault ts types field j (Some t) fault ≡ flaw_of fault types (field_use_of ts field t) j
unfolding has_fault
has_flaw ts types field j t Shape = refl
has_flaw ts types field j t BadName = refl
has_flaw ts types field j t RootMissing = refl
has_flaw ts types field j t UnknownType = refl
has_flaw ts types field j t UnknownField = refl
has_flaw ts types field j t WrongKind = refl
has_flaw ts types field j t DanglingRef = refl
has_flaw ts types field j t RefType = refl
has_flaw ts types field j t TooLarge = refl
has_flaw ts types field j t RootType = refl
has_flaw ts types field j t NoObject = refl
has_flaw ts types field j t Memory = refl

-- where the object is there, its datum has the flaw
pub in_field : (ts : Declared) (b : Bundled) (object field : List ℕ) (j : json.Data) (fault : BundleFault) (t : Thing) (u : Option TypeUse)
    → bundle_set ts b object field j ≡ Err fault → at_name object b.objects ≡ Some t → field_use_of ts field t ≡ u → flaw_of fault (types_of b) u j ≡ true
in_field ts b object field j fault t u refused is declared =
    ap (λ (v : Option TypeUse). flaw_of fault (types_of b) v j) (sym declared)
    ∙ sym (has_flaw ts (types_of b) field j t fault)
    ∙ ap (λ (o : Option Thing). has_fault ts (types_of b) field j o fault) (sym is)
    ∙ has ts b object field j fault refused
