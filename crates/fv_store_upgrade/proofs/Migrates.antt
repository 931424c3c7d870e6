-- The tables are replaced and the records written in one transaction, and what was read before it.
use Rattle.std.proofs.Common.{◌≡◌, ◌≢◌, ◌≤◌, ◌<◌, ◌^◌, inl, inr, true, false, ℕ, List, [], ◌∷◌, IsTrue, Some, Ok, Err, Result, OnOk, sym, ap, subst, ◌∙◌}
use Rattle.std.specs.Option.{ok_or}
use Rattle.std.proofs.lemmas.Bool.{cases_Bool}
use Rattle.sqlite.specs.Order.{Row}
use Rattle.sqlite.specs.declared.error.Error.{Error}
use Rattle.sqlite.specs.State.{State, HasCleanDisk, Shows, KeepsCounts}
use Rattle.fv_datum.specs.Members.{each_some}
use Rattle.fv_store_tables.specs.Causes.{HasFailed, HasRooms, IsExcused, IsRefusal, IsShortAbout}
use Rattle.fv_store_tables.specs.Creating.{no_entries}
use Rattle.fv_store_tables.specs.Olds.{AreOlds, Empties, IsFirst, KeepsOlds, Old, Olds, SpellsFirst}
use Rattle.fv_store_tables.specs.Stands.{TableEntries, Frame, IsLive, Keeps, TablesStand, Stays, about_row}
use Rattle.fv_store_tables.specs.Steps.{Advances}
use Rattle.fv_store_tables.proofs.Steps.{failed_still, failed_then}
use Rattle.fv_store_upgrade.specs.declared.fault.UpgradeFault.{UpgradeFault}
use Rattle.fv_store_upgrade.specs.declared.fault.UpgradeFault.TheVariants as fault
use Rattle.fv_store_upgrade.specs.Faults.{fault_of}
use Rattle.fv_store_upgrade.specs.Steps.{AllApart, EachShort, Named, Puts, all_put, named_in, rows_taken}
use Rattle.fv_store_upgrade.specs.Upgraded.{AllShort, AllUpgrade, HasFew, upgraded}
use Rattle.fv_store_upgrade.proofs.Reading.{err_none}
use Rattle.fv_store_upgrade.proofs.Upgrades.{all_apart, all_short, all_upgrade, not_all, rows_read, upgraded_are}

-- ---- the transaction

abbrev pub Committed : State → State → Type 0
Committed mid new = IsTrue mid.in_transaction × Shows mid new mid.now mid.now false × KeepsCounts mid new × (new.marks ≡ [])

-- the tables are replaced and the records written, and all is committed
pub rewritten : (old one mid new : State) (ks : List Named) (r : Result (Unit {0}) Error) → (HasCleanDisk new → HasCleanDisk mid) → (HasCleanDisk mid → HasCleanDisk one)
    → (HasCleanDisk one → Advances (record old { in_transaction = true }) one Empties) → (HasCleanDisk mid → IsTrue one.in_transaction → Advances one mid (Puts ks)) → (HasCleanDisk new → OnOk r (Committed mid new))
    → HasCleanDisk new → OnOk r ((d : List ℕ) → IsFirst d old.now → AllApart ks → Keeps new (about_row 2 d ∷ []) (all_put ks no_entries))
rewritten old one mid new ks (Err e) late later first second ends clean = tt
rewritten old one mid new ks (Ok t) late later first second ends clean = λ d is apart _ live.
    let end = ends clean in
    let replaced = first (later (late clean)) in
    let it = second (late clean) replaced.mode in
    let stands = (it.change (about_row 2 d ∷ []) no_entries (replaced.change d is).0 apart).0 in
    (subst (λ b. TablesStand b (about_row 2 d ∷ []) (all_put ks no_entries)) (sym end.1.now_is) stands, subst (λ b. TablesStand b (about_row 2 d ∷ []) (all_put ks no_entries)) (sym end.1.committed_is) stands)

-- the tables weren't replaced, and the transaction was undone
pub replace_cause : (old one new : State) (ks : List Named) → one.faults ≤ new.faults → (e : Error) → ((d : List ℕ) → IsFirst d old.now → IsShortAbout d → IsExcused (record old { in_transaction = true }) one e)
    → (d : List ℕ) → IsFirst d old.now → IsShortAbout d → AllApart ks → rows_taken ks < 2 ^ 63 → EachShort ks → IsExcused old new e
replace_cause old one new ks up e h d is about_short apart few short refused = failed_still old one new up (h d is about_short refused)

-- a record was refused, and the transaction was undone
pub put_cause : (old one mid new : State) (ks : List Named) → HasCleanDisk one → Frame (record old { in_transaction = true }) one → one.faults ≤ mid.faults → mid.faults ≤ new.faults
    → Advances (record old { in_transaction = true }) one Empties → (e : Error)
    → ((d : List Row) (m : TableEntries) → TablesStand one.now d m → AllApart ks → HasRooms (rows_taken ks) one.now → EachShort ks → IsExcused one mid e)
    → (d : List ℕ) → IsFirst d old.now → IsShortAbout d → AllApart ks → rows_taken ks < 2 ^ 63 → EachShort ks → IsExcused old new e
put_cause old one mid new ks clean frame up last replaced e h d is about_short apart few short refused =
    let empty = replaced.change d is in
    let failed = h (about_row 2 d ∷ []) no_entries empty.0 apart (empty.1 (rows_taken ks) few) short refused in
    failed_still old mid new last (failed_then (record old { in_transaction = true }) one mid clean frame up failed)

-- ---- faults

pub is_refusal : (e : Error) → fault_of e ≡ fault.Database → IsRefusal e
is_refusal e is memory = let wrong : fault.Memory ≡ fault.Database = sym (ap fault_of memory) ∙ is in cc

-- ---- the whole

pub stays_then : (a b c : State) → Stays a b → Stays b c → Stays a c
stays_then a b c first second clean live =
    let q = second clean live in
    let p = first q.0 q.1 in
    (p.0, p.1, q.2 ∙ p.2, q.3 ∙ p.3)

module _ (old mid new : State) (es : List (List ℕ × Old)) (ks : List Named) (before : Frame old mid) (after : Frame mid new)
    (same : HasCleanDisk mid → (mid.now ≡ old.now) × (mid.committed ≡ old.committed)) (shown : HasCleanDisk mid → (d : List Row) (m : Olds) → SpellsFirst old.now d m → AreOlds es m) where
  -- a connection that is open at last was open at first
  was_open : HasCleanDisk new → IsTrue new.is_open → IsTrue old.is_open
  was_open clean live = before.was_open (after.clean clean) (after.was_open clean live)

  first_still : (d : List ℕ) (m : Olds) → HasCleanDisk mid → SpellsFirst old.now (about_row 1 d ∷ []) m → IsFirst d mid.now
  first_still d m clean spelled = subst (IsFirst d) (sym (same clean).0) (spelled.schema, spelled.about)

  module _ (read : each_some named_in es ≡ Some ks) where
    pub migrated : IsLive new → (HasCleanDisk new → (d : List ℕ) → IsFirst d mid.now → AllApart ks → Keeps new (about_row 2 d ∷ []) (all_put ks no_entries))
        → (d : List ℕ) (m : Olds) → KeepsOlds old (about_row 1 d ∷ []) m → (HasCleanDisk new → AllUpgrade m) × Keeps new (about_row 2 d ∷ []) (upgraded m)
    migrated lives done d m keeps =
        let spelled : HasCleanDisk new → IsTrue new.is_open → SpellsFirst old.now (about_row 1 d ∷ []) m = λ clean live. (keeps (before.clean (after.clean clean)) (was_open clean live)).0 in
        let are : HasCleanDisk new → IsTrue new.is_open → AreOlds es m = λ clean live. shown (after.clean clean) (about_row 1 d ∷ []) m (spelled clean live) in (
          λ clean. all_upgrade es ks m (are clean (lives clean)) read,
          λ clean live. subst (λ n. Keeps new (about_row 2 d ∷ []) n) (upgraded_are es ks m (are clean live) read)
              (done clean d (first_still d m (after.clean clean) (spelled clean live)) (all_apart es ks read)) clean live,
        )

    -- the tables weren't rewritten
    pub rewrite_excused : (e : Error) → HasCleanDisk new
        → ((d : List ℕ) → IsFirst d mid.now → IsShortAbout d → AllApart ks → rows_taken ks < 2 ^ 63 → EachShort ks → IsExcused mid new e)
        → fault_of e ≡ fault.Database → (d : List ℕ) (m : Olds) → KeepsOlds old (about_row 1 d ∷ []) m → IsShortAbout d → AllShort (upgraded m) → HasFew m → HasFailed old new
    rewrite_excused e clean h is d m keeps about_short short few = elim (cases_Bool old.is_open) [
      | inl live ↦
          let spelled = (keeps (before.clean (after.clean clean)) live).0 in
          let are = shown (after.clean clean) (about_row 1 d ∷ []) m spelled in
          let taken = subst (λ n. n < 2 ^ 63) (rows_read es ks read) (few es are) in
          failed_then old mid new (after.clean clean) before after.counts
          (h d (first_still d m (after.clean clean) spelled) about_short (all_apart es ks read) taken (all_short es ks m are read short) (is_refusal e is))
      | inr shut ↦ inr shut
    ]

-- a row isn't a record
pub row_damaged : (old mid : State) (es : List (List ℕ × Old)) (e : UpgradeFault) → HasCleanDisk mid → Frame old mid → IsLive mid → ((d : List Row) (m : Olds) → SpellsFirst old.now d m → AreOlds es m)
    → (e ≢ fault.Memory → ok_or (each_some named_in es) fault.Damaged ≡ Err e) → e ≡ fault.Damaged → (d : List ℕ) (m : Olds) → KeepsOlds old (about_row 1 d ∷ []) m → AllUpgrade m → ⊥
row_damaged old mid es e clean before lives shown gives is d m keeps =
    let spelled = (keeps (before.clean clean) (before.was_open clean (lives clean))).0 in
    let none = (err_none (each_some named_in es) fault.Damaged e (gives (λ memory. let wrong : fault.Damaged ≡ fault.Memory = sym is ∙ memory in cc))).0 in
    not_all es m (shown (about_row 1 d ∷ []) m spelled) none

-- the rows weren't read
pub find_excused : (old new : State) (e : Error) → HasCleanDisk old → ((d : List Row) (m : Olds) → SpellsFirst old.now d m → IsExcused old new e)
    → fault_of e ≡ fault.Database → (d : List ℕ) (m : Olds) → KeepsOlds old (about_row 1 d ∷ []) m → IsShortAbout d → AllShort (upgraded m) → HasFew m → HasFailed old new
find_excused old new e clean h is d m keeps about_short short few = elim (cases_Bool old.is_open) [
  | inl live ↦ h (about_row 1 d ∷ []) m (keeps clean live).0 (is_refusal e is)
  | inr shut ↦ inr shut
]
