-- Records are judged: those that a command changes, where all its parts are made, or all that are stored.
use Rattle.std.specs.Prelude.{◌≡◌, ◌≢◌, ◌⊎◌, ℕ, ℤ, List, [], Some, unwrap_or}
use Rattle.std.specs.Map.{keys_of}
use Rattle.sqlite_rules.specs.Lists.{Has}
use Rattle.fv_engine_command.specs.Commands.{Part}
use Rattle.fv_datum.specs.Lookup.{at_name}
use Rattle.fv_declare_schema.specs.Declarations.{Declarations}
use Rattle.fv_engine_pending.specs.Touched.{IsTouched}
use Rattle.fv_engine_pending.specs.Ways.{Way}
use Rattle.fv_registry.specs.Meanings.{Meanings}
use Rattle.fv_store.specs.Records.{Kept, Records}
use Rattle.fv_datum.specs.Ascending.{IsAscending}
use Rattle.fv_validate.specs.Violations.{Judged, Reported, IsListing}
use Rattle.fv_validate.specs.declared.fault.ValidateFault.{ValidateFault}
use Rattle.fv_validate.specs.declared.fault.ValidateFault.TheVariants.{UnknownGroup, NoSuchField}
use Rattle.fv_walk.specs.Visits.{HasTooManyVisits, HasFewVisits}

-- the numbers of a form's groups; none where it isn't declared
abbrev pub groups_of : Declarations → List ℕ → List ℕ
groups_of ds form = unwrap_or (at_name form ds.form_groups) []

-- a record has no more than 4,096 visits for the groups of its form, and these are its violations for them at a moment
abbrev pub IsListingOf : Meanings → Declarations → ℤ → Kept → List Reported → Type 0
IsListingOf means ds now k vs = HasFewVisits ds k.bundle (groups_of ds k.form) × IsListing means ds now k.bundle (groups_of ds k.form) vs

-- a fault that judging records may have: neither of a name of a group nor of a field
abbrev pub IsOfJudging : ValidateFault → Type 0
IsOfJudging fault = (fault ≢ UnknownGroup) × (fault ≢ NoSuchField)

-- a record has more than 4,096 visits for the groups of its form
abbrev pub IsOverVisited : Declarations → Kept → Type 0
IsOverVisited ds k = HasTooManyVisits ds k.bundle (groups_of ds k.form)

-- one of these records has too many visits
abbrev pub OneIsOverAmong : Declarations → (List ℕ → Kept → Type 0) → Type 0
OneIsOverAmong ds Among = (id : List ℕ) × (k : Kept) × Among id k × HasTooManyVisits ds k.bundle (groups_of ds k.form)

-- none of these records has too many visits; those with violations are listed by their ids, each with all of its own, ascending by their bytes
pub record AreListingsOf (means : Meanings) (ds : Declarations) (now : ℤ) (Among : List ℕ → Kept → Type 0) (ls : List Judged) : Type 0 where
  pub ascending : IsAscending (keys_of ls)
  pub sound : (l : Judged) → Has ls l → (l.1 ≢ []) × (k : Kept) × Among l.0 k × IsListingOf means ds now k l.1
  pub complete : (id : List ℕ) (k : Kept) → Among id k → IsListingOf means ds now k [] ⊎ ((vs : List Reported) × Has ls (id, vs))

-- this record stands on the way at the id
abbrev pub IsStanding : Way → List ℕ → Kept → Type 0
IsStanding way id k = at_name id way ≡ Some (Some k)

-- one of the records that parts put or set, and that stand after all of them, has too many visits
abbrev pub OneIsOverVisited : Declarations → List Part → Records → Type 0
OneIsOverVisited ds parts m = OneIsOverAmong ds (IsTouched parts m)

-- the listings of those
abbrev pub AreListings : Meanings → Declarations → ℤ → List Part → Records → List Judged → Type 0
AreListings means ds now parts m = AreListingsOf means ds now (IsTouched parts m)
