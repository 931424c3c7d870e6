-- For private clauses: how far a pass over all stored records has come.
use Rattle.std.specs.Prelude.{◌≡◌, ◌⊎◌, ℕ, ◌≤◌, ℤ, List, [], ◌∷◌, ◌++◌, length, Option, Some, None, option_map, Result, Ok, Err, false, map, string_bytes}
use Rattle.std.specs.Cmp.Lexicographic.{slice_cmp}
use Rattle.std.specs.List.{AllByRecursion}
use Rattle.std.specs.Map.{keys_of}
use Rattle.std.specs.Ordering.{nat_cmp}
use Rattle.std.specs.Result.{result_map_both}
use Rattle.std.specs.declared.cmp.Ordering.TheVariants.{Less}
use Rattle.serde_json.specs.Data as json
use Rattle.sqlite.specs.State.{State, HasCleanDisk}
use Rattle.sqlite_rules.specs.Lists.{Has}
use Rattle.fv_datum.specs.Ascending.{IsAscending}
use Rattle.fv_declare_schema.specs.Declarations.{Declarations}
use Rattle.fv_datum.specs.declared.parsing.JsonFault.{JsonFault}
use Rattle.fv_datum.specs.declared.parsing.JsonFault.TheVariants as json_fault
use Rattle.fv_engine_pending.specs.Records.{AreJudged, OneIsOver, with_some}
use Rattle.fv_engine_pending.specs.Rejudging.{IsFirstUnfit}
use Rattle.fv_engine_pending.specs.declared.rejudging.RejudgeFault.{RejudgeFault}
use Rattle.fv_engine_pending.specs.declared.rejudging.RejudgeFault.TheVariants.{Unfit, TooManyVisits, Store, Memory}
use Rattle.fv_engine_pending.specs.declared.rejudging.Verdicts.{Verdicts}
use Rattle.fv_engine_pending.specs.declared.rejudging.Verdicts.TheVariants.{Listed, Over}
use Rattle.fv_engine_pending.specs.Again.{again}
use Rattle.fv_engine_pending.specs.declared.fault.PartFault.{PartFault}
use Rattle.fv_validate.specs.ViolationView.{judged_view}
use Rattle.fv_validate.specs.Violations.{Judged}
use Rattle.fv_bundle.specs.Types.{has_deep}
use Rattle.fv_registry.specs.Meanings.{Meanings}
use Rattle.fv_store.specs.Again.{with_bundle}
use Rattle.fv_store.specs.Causes.{HasFailed}
use Rattle.fv_store.specs.Records.{Contents, Kept, Records}
use Rattle.fv_store.specs.Stands.{Frame, HoldsRecords, Stays}
use Rattle.fv_store.specs.Stored.{untyped}
use Rattle.fv_store.specs.declared.fault.StoreFault.{StoreFault}
use Rattle.fv_store.specs.declared.fault.StoreFault.TheVariants as store

-- ---- one record

-- a record read again, or why it can't be
abbrev pub reread : Declarations → Kept → Result Kept PartFault
reread ds k = result_map_both (with_bundle k) (λ why. why) (again ds.types ds.forms k)

-- each record so read
abbrev pub all_reread : Declarations → Records → List ℕ → Option (Result Kept PartFault)
all_reread ds m id = option_map (reread ds) (m id)

-- the record of which this is written gives this when it is read again
abbrev pub IsReread : Declarations → List ℕ × Option json.Data → Result Kept PartFault → Type 0
IsReread ds w r = (k : Kept) → w ≡ untyped k → reread ds k ≡ r

-- ---- records one after another

-- what is known so far of records that were judged
abbrev pub AreSo : Meanings → Declarations → ℤ → Verdicts → List (List ℕ × Kept) → Type 0
AreSo means ds now (Listed v) ks = (ls : List Judged) × AreJudged means ds now ks ls × (map judged_view v.items ≡ with_some ls)
AreSo means ds now Over ks = OneIsOver ds ks

-- ids give these values
abbrev pub AreKnown : {K E : Type 0} → (List ℕ → Option (Result K E)) → List (List ℕ × K) → Type 0
AreKnown m = AllByRecursion (λ k. m k.0 ≡ Some (Ok k.1))

-- these are the values of all ids that aren't above this one, ascending by their bytes
pub record Reaches {K E : Type 0} (m : List ℕ → Option (Result K E)) (above : List ℕ) (done : List (List ℕ × K)) : Type 0 where
  pub ascending : IsAscending (keys_of done)
  pub within : AllByRecursion (λ id. (id ≡ above) ⊎ (slice_cmp nat_cmp id above ≡ Less)) (keys_of done)
  pub known : AreKnown m done
  pub complete : (id : List ℕ) (r : Result K E) → m id ≡ Some r → (slice_cmp nat_cmp above id ≡ Less) ⊎ ((k : K) × Has done (id, k))

-- these are the values of all ids
pub record AreAll {K E : Type 0} (m : List ℕ → Option (Result K E)) (all : List (List ℕ × K)) : Type 0 where
  pub ascending : IsAscending (keys_of all)
  pub known : AreKnown m all
  pub complete : (id : List ℕ) (r : Result K E) → m id ≡ Some r → (k : K) × Has all (id, k)

-- up to the last id of a page that is full, and else all
abbrev pub IsUpTo : {K E : Type 0} → (List ℕ → Option (Result K E)) → Option (List ℕ) → List (List ℕ × K) → Type 0
IsUpTo m (Some last) done = Reaches m last done
IsUpTo m None done = AreAll m done

-- so many are on a page that is full
abbrev pub IsFull : {X : Type 0} → Option (List ℕ) → List X → Type 0
IsFull (Some last) xs = 1000 ≤ length xs
IsFull None xs = Unit {0}

-- the last of these ids, else the one that is given
abbrev pub last_of : List ℕ → List (List ℕ) → List ℕ
last_of above [] = above
last_of above (id ∷ ids) = last_of id ids

-- ---- calls of the store

-- what a call keeps of a store that it only reads
pub record OnlyReads (old new : State) : Type 0 where
  pub frame : Frame old new
  pub stays : (c : Contents) → HoldsRecords old c → HoldsRecords new c
  pub untouched : (c : Contents) → HoldsRecords old c → Stays old new

-- what is sure of all records that were held before a call, unless the disk has lied
abbrev pub Sure : State → State → (Records → Type 0) → Type 0
Sure old new P = HasCleanDisk new → (c : Contents) → has_deep c.types ≡ false → HoldsRecords old c → P c.records

-- ---- faults

-- a fault of the store is one of the pass
abbrev pub of_store : StoreFault → RejudgeFault
of_store store.Store = Store
of_store store.Memory = Memory

-- why a text isn't read is one, too: where the disk is clean, what is written of a record is JSON
abbrev pub of_json : JsonFault → RejudgeFault
of_json json_fault.NotJson = Store
of_json json_fault.Memory = Memory

-- why the id's record, of which this is written, isn't judged
abbrev pub WrittenFails : Declarations → List ℕ → List ℕ × Option json.Data → RejudgeFault → Type 0
WrittenFails ds id w (Unfit i why) = (string_bytes i ≡ id) × IsReread ds w (Err why)
WrittenFails ds id w TooManyVisits = ⊥
WrittenFails ds id w Store = (k : Kept) → w ≡ untyped k → ⊥
WrittenFails ds id w Memory = Unit {0}

module _ (ds : Declarations) (old new : State) where
  -- why the id's record isn't read again and judged
  abbrev pub OneFails : List ℕ → RejudgeFault → Type 0
  OneFails id (Unfit i why) = (string_bytes i ≡ id) × Sure old new (λ m. all_reread ds m id ≡ Some (Err why))
  OneFails id TooManyVisits = ⊥
  OneFails id Store = Sure old new (λ m. (k : Kept) → m id ≡ Some k → HasFailed old new)
  OneFails id Memory = Unit {0}

  -- why the record of the empty id isn't
  abbrev pub FirstFails : RejudgeFault → Type 0
  FirstFails (Unfit i why) = Sure old new (λ m. IsFirstUnfit ds.types ds.forms m (string_bytes i) why)
  FirstFails TooManyVisits = ⊥
  FirstFails Store = Sure old new (λ m. HasFailed old new)
  FirstFails Memory = Unit {0}

  -- why the records of a page aren't
  abbrev pub PageFails : List (List ℕ) → RejudgeFault → Type 0
  PageFails ids (Unfit i why) = (read : List (List ℕ × Kept)) × (rest : List (List ℕ)) × (ids ≡ keys_of read ++ string_bytes i ∷ rest)
      × Sure old new (λ m. AreKnown (all_reread ds m) read × (all_reread ds m (string_bytes i) ≡ Some (Err why)))
  PageFails ids TooManyVisits = ⊥
  PageFails ids Store = Sure old new (λ m. AllByRecursion (λ id. (k : Kept) × (m id ≡ Some k)) ids → HasFailed old new)
  PageFails ids Memory = Unit {0}

  -- why the records of the next page above an id aren't
  abbrev pub NextFails : List ℕ → RejudgeFault → Type 0
  NextFails above (Unfit i why) =
      Sure old new (λ m. (done : List (List ℕ × Kept)) → Reaches (all_reread ds m) above done → IsFirstUnfit ds.types ds.forms m (string_bytes i) why)
  NextFails above TooManyVisits = ⊥
  NextFails above Store = Sure old new (λ m. HasFailed old new)
  NextFails above Memory = Unit {0}

-- what judging the next page above an id gives, to its last id or to the end, behind what was judged before
abbrev pub NextDone : (Verdicts → List (List ℕ × Kept) → Type 0) → Declarations → State → State → Verdicts → Verdicts → List ℕ → Option (List ℕ) → Type 0
NextDone So ds old new v w above last = (read : List (List ℕ × Kept)) × IsFull last read × ((ks : List (List ℕ × Kept)) → So v ks → So w (ks ++ read))
    × Sure old new (λ m. (done : List (List ℕ × Kept)) → Reaches (all_reread ds m) above done → IsUpTo (all_reread ds m) last (done ++ read))
