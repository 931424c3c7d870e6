-- Records that are read again under declarations, from what is written of them.
use Rattle.std.specs.Prelude.{◌≡◌, ℕ, List, Bool, true, false, Option, Some, None, is_some, Result, Ok, Err, if◌then◌else◌}
use Rattle.fv_datum.specs.Lookup.{at_name}
use Rattle.fv_bundle.specs.Bundles.{Bundled}
use Rattle.fv_model.specs.Unfit.{is_of_types}
use Rattle.fv_model.specs.Writing.{bundle_json}
use Rattle.fv_engine_pending.specs.Parts.{bundle_under}
use Rattle.fv_engine_pending.specs.declared.fault.PartFault.{PartFault}
use Rattle.fv_engine_pending.specs.declared.fault.PartFault.TheVariants.{UnknownForm, Bundle}
use Rattle.fv_store.specs.Again.{all_read}
use Rattle.fv_store.specs.Records.{Kept, Records, Roots}
use Rattle.fv_bundle.specs.Types.{Declared}
use Rattle.std.specs.Result.{result_map_both}

-- a record's bundle, read again from what is written of it, as a put of it under its form; or why there is none
abbrev pub again : Declared → Roots → Kept → Result Bundled PartFault
again types forms k =
    if is_some (at_name k.form forms) then result_map_both (λ b. b) Bundle (bundle_under types forms k.form (bundle_json k.bundle)) else Err UnknownForm

-- the bundle, if there is one
abbrev pub if_read : Result Bundled PartFault → Option Bundled
if_read (Ok b) = Some b
if_read (Err why) = None

-- the records so read; none at an id whose record can't be read
abbrev pub all_again : Declared → Roots → Records → Records
all_again types forms = all_read (λ k. if_read (again types forms k))

-- each can be read
abbrev pub AllReadAgain : Declared → Roots → Records → Type 0
AllReadAgain types forms m = (id : List ℕ) (k : Kept) → m id ≡ Some k → (b : Bundled) × (again types forms k ≡ Ok b)

-- why a record that stands may not be read again
abbrev pub is_unfit : PartFault → Bool
is_unfit UnknownForm = true
is_unfit (Bundle why) = is_of_types why
is_unfit _ = false
