-- Parts whose bundles were read, and what they make of the records on the way: what `read_parts` and `apply_all` are stated by.
use Rattle.std.specs.Prelude.{ℕ, ◌+◌, List, [], ◌∷◌, Option, Some, None, is_some, Result, Ok, Err, if◌then◌else◌}
use Rattle.std.specs.Result.{result_map_both}
use Rattle.serde_json.specs.Data as json
use Rattle.serde_json.specs.View.{view as json_view}
use Rattle.fv_datum.specs.Lookup.{at_name}
use Rattle.fv_engine_command.specs.Commands.{Part, put, set, remove}
use Rattle.fv_model.specs.Setting.{bundle_set}
use Rattle.fv_bundle.specs.Bundles.{Bundled}
use Rattle.fv_bundle.specs.Views.{bundle_view}
use Rattle.fv_model.specs.declared.fault.BundleFault.{BundleFault}
use Rattle.fv_engine_pending.specs.Parts.{bundle_under, and_then}
use Rattle.fv_engine_pending.specs.Ways.{Way, standing_at, left_at, without_id}
use Rattle.fv_engine_pending.specs.declared.fault.PartFault.{PartFault}
use Rattle.fv_engine_pending.specs.declared.fault.PartFault.TheVariants.{UnknownForm, Bundle, NoRecord}
use Rattle.fv_engine_pending.specs.declared.parts.Step.{Step}
use Rattle.fv_engine_pending.specs.declared.parts.Step.TheVariants.{Put, Set, Remove}
use Rattle.fv_store.specs.Records.{Kept, Roots, RecordFits}
use Rattle.fv_bundle.specs.Types.{Declared}

-- a part whose bundle was read
pub data Staged : Type 0 where
  -- the id, the form, and the bundle or why there is none
  put_step : List ℕ → List ℕ → Result Bundled PartFault → Staged
  set_step : List ℕ → List ℕ → List ℕ → json.Data → Staged
  remove_step : List ℕ → Staged

-- the part that a step of the code is
abbrev pub step_view : Step → Staged
step_view (Put id form bundle) = put_step id.now form.now (result_map_both bundle_view (λ e. e) bundle)
step_view (Set step) = set_step step.id.now step.object.now step.field.now (json_view step.value.now)
step_view (Remove id) = remove_step id.now

-- a fault of a bundle is a part's
abbrev pub faulty : Result Bundled BundleFault → Result Bundled PartFault
faulty = result_map_both (λ b. b) Bundle

-- a part with its bundle read
abbrev pub staged : Declared → Roots → Part → Staged
staged types forms (put id form j) =
    put_step id form (if is_some (at_name form forms) then faulty (bundle_under types forms form j) else Err UnknownForm)
staged types forms (set id object field j) = set_step id object field j
staged types forms (remove id) = remove_step id

-- the way with a record at an id, where there is a bundle for it
abbrev pub left_as : List ℕ → List ℕ → Way → Result Bundled PartFault → Result Way PartFault
left_as id form way = result_map_both (λ b. left_at id (Some (record { form = form; bundle = b })) way) (λ e. e)

abbrev pub set_on : Declared → List ℕ → List ℕ → List ℕ → json.Data → Way → Option Kept → Result Way PartFault
set_on types id object field j way None = Err NoRecord
set_on types id object field j way (Some k) = left_as id k.form (without_id id way) (faulty (bundle_set types k.bundle object field j))

abbrev pub removed_on : List ℕ → Way → Option Kept → Result Way PartFault
removed_on id way None = Err NoRecord
removed_on id way (Some k) = Ok (left_at id None (without_id id way))

-- what a part makes of the records on the way
abbrev pub step_made : Declared → Staged → Way → Result Way PartFault
step_made types (put_step id form bundle) way = left_as id form way bundle
step_made types (set_step id object field j) way = set_on types id object field j way (standing_at id way)
step_made types (remove_step id) way = removed_on id way (standing_at id way)

-- a fault with the number of the part that has it
abbrev pub numbered : {X E : Type 0} → ℕ → Result X E → Result X (ℕ × E)
numbered n = result_map_both (λ x. x) (λ e. (n, e))

-- what parts make of them in order, numbered from this number on
abbrev pub steps_made : Declared → ℕ → List Staged → Way → Result Way (ℕ × PartFault)
steps_made types n [] way = Ok way
steps_made types n (s ∷ ss) way = and_then (steps_made types (n + 1) ss) (numbered n (step_made types s way))

-- the bundle of a put is well-typed, and fits its form
abbrev pub StepFits : Declared → Roots → Staged → Type 0
StepFits types forms (put_step id form (Ok b)) = RecordFits types forms (record { form = form; bundle = b })
StepFits types forms _ = Unit {0}
