-- All stored records are read again under other declarations.
use Rattle.std.specs.Prelude.{◌≡◌, ℕ, ◌<◌, ◌*◌, ◌^◌, List, Some, Ok, Err, length, string_bytes}
use Rattle.std.specs.Cmp.Lexicographic.{slice_cmp}
use Rattle.std.specs.List.{AllByRecursion}
use Rattle.std.specs.Ordering.{nat_cmp}
use Rattle.std.specs.declared.cmp.Ordering.TheVariants.{Less}
use Rattle.fv_datum.specs.Ascending.{IsAscending}
use Rattle.fv_declare_schema.specs.Declarations.{Declarations}
use Rattle.fv_engine_pending.specs.Judging.{OneIsOverAmong}
use Rattle.fv_engine_pending.specs.declared.rejudging.RejudgeFault.{RejudgeFault}
use Rattle.fv_engine_pending.specs.declared.rejudging.RejudgeFault.TheVariants.{Unfit, TooManyVisits, Store, Memory}
use Rattle.fv_engine_pending.specs.Again.{AllReadAgain, again, all_again}
use Rattle.fv_engine_pending.specs.declared.fault.PartFault.{PartFault}
use Rattle.fv_bundle.specs.Bundles.{Bundled}
use Rattle.fv_bundle.specs.Types.{Declared}
use Rattle.fv_store.specs.Records.{Kept, Records, Roots}

-- the first record by its id that can't be read, and why
pub record IsFirstUnfit (types : Declared) (forms : Roots) (m : Records) (id : List ℕ) (why : PartFault) : Type 0 where
  pub kept : Kept
  pub known : m id ≡ Some kept
  pub unread : again types forms kept ≡ Err why
  pub first : (other : List ℕ) (k : Kept) → m other ≡ Some k → slice_cmp nat_cmp other id ≡ Less → (b : Bundled) × (again types forms k ≡ Ok b)

-- there are fewer ids than are looked at: 2 ^ 32 pages of 1,000
abbrev pub HasFewIds : Records → Type 0
HasFewIds m = (ids : List (List ℕ)) → IsAscending ids → AllByRecursion (λ id. (k : Kept) × (m id ≡ Some k)) ids → length ids < 2 ^ 32 * 1000

-- a fault that a record has
abbrev pub IsOfRecord : RejudgeFault → Type 0
IsOfRecord (Unfit id why) = Unit {0}
IsOfRecord TooManyVisits = Unit {0}
IsOfRecord Store = ⊥
IsOfRecord Memory = ⊥

-- why the records aren't all judged: the first that can't be read, one that has too many visits where all can be, the store, which has failed where
-- there are few ids, or want of memory
abbrev pub RejudgeFails : Declarations → Records → Type 0 → RejudgeFault → Type 0
RejudgeFails ds m failed (Unfit i why) = IsFirstUnfit ds.types ds.forms m (string_bytes i) why
RejudgeFails ds m failed TooManyVisits = AllReadAgain ds.types ds.forms m × OneIsOverAmong ds (λ id k. all_again ds.types ds.forms m id ≡ Some k)
RejudgeFails ds m failed Store = HasFewIds m → failed
RejudgeFails ds m failed Memory = Unit {0}
