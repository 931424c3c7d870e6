-- What the parts of a command make of records.
use Rattle.std.specs.Prelude.{ℕ, ◌+◌, List, [], ◌∷◌, Bool, true, false, is_some, Result, Ok, Err, if◌then◌else◌}
use Rattle.std.specs.List.{list_any}
use Rattle.std.specs.Option.{option_map_or}
use Rattle.std.specs.Result.{result_map_both}
use Rattle.serde_json.specs.Data as json
use Rattle.fv_datum.specs.Lookup.{at_name}
use Rattle.fv_engine_command.specs.Commands.{Part, put, set, remove}
use Rattle.fv_model.specs.Setting.{bundle_set}
use Rattle.fv_bundle.specs.Bundles.{Bundled}
use Rattle.fv_model.specs.Reading.{bundle_read}
use Rattle.fv_model.specs.declared.fault.BundleFault.{BundleFault}
use Rattle.fv_model.specs.declared.fault.BundleFault.TheVariants as fault
use Rattle.fv_engine_pending.specs.declared.fault.PartFault.{PartFault}
use Rattle.fv_engine_pending.specs.declared.fault.PartFault.TheVariants.{UnknownForm, Bundle, NoRecord}
use Rattle.fv_store.specs.Records.{Records, Roots, with_record, without_record}
use Rattle.fv_bundle.specs.Types.{Declared}

-- the bundle that JSON spells under a form, or its first fault; where the form isn't declared, its root may be of any type
abbrev pub bundle_under : Declared → Roots → List ℕ → json.Data → Result Bundled BundleFault
bundle_under types forms form j = bundle_read types (at_name form forms) j

-- the records with a bundle of a form at an id, where there is a bundle, and else its fault
abbrev pub kept_as : List ℕ → List ℕ → Records → Result Bundled BundleFault → Result Records PartFault
kept_as id form m = result_map_both (λ b. with_record id (record { form = form; bundle = b }) m) Bundle

-- what a part makes of records, or why it can't be done: the form of a put has to be declared, a set and a remove need a record at their id
abbrev pub part_made : Declared → Roots → Part → Records → Result Records PartFault
part_made types forms (put id form j) m =
    if is_some (at_name form forms) then kept_as id form m (bundle_under types forms form j) else Err UnknownForm
part_made types forms (set id object field j) m =
    option_map_or (λ k. kept_as id k.form m (bundle_set types k.bundle object field j)) (m id) (Err NoRecord)
part_made types forms (remove id) m = option_map_or (λ k. Ok (without_record id m)) (m id) (Err NoRecord)

-- one thing and then another, unless the first fails
abbrev pub and_then : {X Y E : Type 0} → (X → Result Y E) → Result X E → Result Y E
and_then f (Ok x) = f x
and_then f (Err e) = Err e

-- what parts make of records in order, each of what the parts before have left, or the first that can't be done with its number; n is the
-- number of the first of them
abbrev pub parts_made : Declared → Roots → ℕ → List Part → Records → Result Records (ℕ × PartFault)
parts_made types forms n [] m = Ok m
parts_made types forms n (p ∷ ps) m = and_then (parts_made types forms (n + 1) ps) (result_map_both (λ x. x) (λ e. (n, e)) (part_made types forms p m))

-- a bundle isn't of the form of one
abbrev pub is_misread : Result Bundled BundleFault → Bool
is_misread (Err fault.Shape) = true
is_misread _ = false

-- a put whose bundle isn't of the form of one
abbrev pub is_misshapen : Declared → Roots → Part → Bool
is_misshapen types forms (put id form j) = is_misread (bundle_under types forms form j)
is_misshapen types forms _ = false

-- one of the parts is
abbrev pub are_misshapen : Declared → Roots → List Part → Bool
are_misshapen types forms = list_any (is_misshapen types forms)
