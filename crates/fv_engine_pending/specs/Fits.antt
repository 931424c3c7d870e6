-- The records on the way fit.
use Rattle.std.specs.Prelude.{◌≡◌, ℕ, IsTrue, List, Option, Some}
use Rattle.std.specs.List.{AllByRecursion, list_any}
use Rattle.std.specs.Option.{ForSome}
use Rattle.fv_datum.specs.Lookup.{at_name}
use Rattle.fv_engine_command.specs.Commands.{Part}
use Rattle.fv_bundle.specs.WellTyped.{IsWellTyped}
use Rattle.fv_engine_pending.specs.Steps.{Staged, StepFits}
use Rattle.fv_engine_pending.specs.Touched.{needed_id, needs_at}
use Rattle.fv_engine_pending.specs.Ways.{Way, IsOn}
use Rattle.fv_store.specs.Causes.{IsShort}
use Rattle.fv_store.specs.Records.{Kept, Records, Roots, RecordFits}
use Rattle.fv_bundle.specs.Types.{Declared}

-- each record on the way is well-typed
abbrev pub AreTyped : Declared → Way → Type 0
AreTyped types = AllByRecursion (λ e. ForSome e.1 (λ k. IsWellTyped types k.bundle))

-- and each entry's fits the forms
abbrev pub AreFit : Declared → Roots → Way → Type 0
AreFit types forms = AllByRecursion (λ e. ForSome e.1 (RecordFits types forms))

-- each record that stands on the way fits the forms
abbrev pub AreFitting : Declared → Roots → Way → Type 0
AreFitting types forms way = (id : List ℕ) (k : Kept) → at_name id way ≡ Some (Some k) → RecordFits types forms k

-- where the bundles of the puts fit, steps keep the records well-typed, and keep them fitting
abbrev pub Keeps : Declared → List Staged → Way → Way → Type 0
Keeps types steps old new = (forms : Roots) → AllByRecursion (StepFits types forms) steps
    → (AreTyped types old → AreTyped types new) × (AreFitting types forms old → AreFitting types forms new)

-- each record that stands on the way is short enough for the database
abbrev pub AreShort : Way → Type 0
AreShort way = (id : List ℕ) (k : Kept) → at_name id way ≡ Some (Some k) → IsShort id k

-- the same of each entry
abbrev pub EachIsShort : Way → Type 0
EachIsShort = AllByRecursion (λ e. ForSome e.1 (IsShort e.0))

-- what stands on the way is what the records have
abbrev pub Agrees : Way → Records → Type 0
Agrees way m = (id : List ℕ) (o : Option Kept) → at_name id way ≡ Some o → m id ≡ o

-- the id of a part that needs a record is on the way
abbrev pub Covers : Way → Part → Type 0
Covers way p = ForSome (needed_id p) (λ id. IsOn id way)

-- each id on the way is that of a part that needs a record
abbrev pub AreNeeded : List Part → Way → Type 0
AreNeeded parts way = (id : List ℕ) → IsOn id way → IsTrue (list_any (needs_at id) parts)
