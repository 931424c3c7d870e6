-- Records whose bundles are read again, from what is written of them.
use Rattle.std.specs.Prelude.{◌≡◌, ℕ, List, Option, Some, Ok, option_map, option_and_then}
use Rattle.fv_datum.specs.Lookup.{at_name}
use Rattle.fv_bundle.specs.Types.{Declared}
use Rattle.fv_bundle.specs.Bundles.{Bundled}
use Rattle.fv_model.specs.Reading.{bundle_read}
use Rattle.fv_model.specs.Writing.{bundle_json}
use Rattle.fv_store.specs.Records.{Kept, Records, Roots}

-- the record with another bundle
abbrev pub with_bundle : Kept → Bundled → Kept
with_bundle k b = record { form = k.form; bundle = b }

-- the records with what their bundles are read as; none at an id whose bundle isn't read
abbrev pub all_read : (Kept → Option Bundled) → Records → Records
all_read read m id = option_and_then (λ k. option_map (λ b. record { form = k.form; bundle = b }) (read k)) (m id)

-- what is read of a record is what is written of it, under these types and as a bundle of its form, which has to be declared
abbrev pub ReadsUnder : Declared → Roots → (Kept → Option Bundled) → Type 0
ReadsUnder types forms read = (k : Kept) (b : Bundled) → read k ≡ Some b
    → (root : List ℕ) × (at_name k.form forms ≡ Some root) × (bundle_read types (Some root) (bundle_json k.bundle) ≡ Ok b)

-- each record's bundle is read
abbrev pub AllRead : (Kept → Option Bundled) → Records → Type 0
AllRead read m = (id : List ℕ) (k : Kept) → m id ≡ Some k → (b : Bundled) × (read k ≡ Some b)
