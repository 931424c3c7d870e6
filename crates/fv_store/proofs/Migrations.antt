-- What an open does to a database that isn't blank: one of version 1 is migrated, and any other stays.
use Rattle.std.proofs.Common.{◌≡◌, ◌≤◌, ◌&&◌, nat_eq, length, ℕ, ℤ, pos, Bool, true, false, List, [], ◌∷◌, IsTrue, Result, Ok, Err, IfErr, OnOk, inl, inr, refl, sym, subst, ◌∙◌}
use Rattle.sqlite.specs.Schema.{Schema}
use Rattle.sqlite_schema.specs.Names.{same_name}
use Rattle.sqlite.specs.State.{State, HasCleanDisk}
use Rattle.fv_store_tables.specs.Olds.{Olds}
use Rattle.fv_store_tables.specs.Olds as first
use Rattle.fv_store_tables.specs.FirstTables.{old_schema}
use Rattle.fv_store_tables.specs.Stands.{about_row}
use Rattle.fv_store_tables.proofs.Steps.{failed_then}
use Rattle.fv_store_upgrade.specs.Upgraded.{AllShort, AllUpgrade, HasFew, upgraded}
use Rattle.fv_store_upgrade.specs.declared.fault.UpgradeFault.{UpgradeFault}
use Rattle.fv_store_upgrade.specs.declared.fault.UpgradeFault.TheVariants.{Damaged, Database, Memory}
use Rattle.fv_store.specs.declared.fault.OpenStoreFault.{OpenStoreFault}
use Rattle.fv_store.specs.declared.fault.OpenStoreFault.TheVariants as refusal
use Rattle.fv_store.specs.Causes.{HasFailed, IsShortAbout}
use Rattle.fv_store.specs.Faults.{upgrade_fault}
use Rattle.fv_store.specs.Stands.{Frame, are_first, HasAbout, IsBlank, MayBeFirst, KeepsFirst, Stays, first_version, HasFirstTables, TellsAbout}
use Rattle.fv_store.specs.Steps.{FailsByDisk, IsOpenExcused, IsTaken, IsTakenAs, IsUnread, IsUnreadOrFirst, IsUpgraded}
use Rattle.fv_store.proofs.Openings.{blank_lacks}

-- what is read leaves the rows of version 1
pub first_kept : (old mid : State) → Stays old mid → (d : List ℕ) (m : Olds) → KeepsFirst old d m → KeepsFirst mid d m
first_kept old mid stays d m keeps clean live =
    let it = stays clean live in
    let was = keeps it.0 it.1 in
    (subst (λ db. first.SpellsFirst db (about_row first_version d ∷ []) m) (sym it.2) was.0, subst (λ db. first.SpellsFirst db (about_row first_version d ∷ []) m) (sym it.3) was.1)

-- the version that was read is that of the row
pub first_only : (s : State) (number : ℤ) (text : List ℕ) → IsTakenAs s number text → number ≡ pos first_version → (version : ℤ) (stored : List ℕ) → TellsAbout version stored s.now → version ≡ pos first_version
first_only s number text taken first version stored tells = sym (taken version stored tells).1 ∙ first

-- and the tables that were counted are those that were there before the row was read
pub first_tables : (old mid : State) (number : ℤ) (text : List ℕ) → HasCleanDisk mid → IsTrue mid.is_open → Stays old mid → HasFirstTables mid.now → IsTakenAs old number text → HasAbout old number text → number ≡ pos first_version
    → MayBeFirst old
first_tables old mid number text clean live stays two taken has first =
    (subst HasFirstTables (stays clean live).2 two, (text, subst (λ (n : ℤ). HasAbout old n text) first has), first_only old number text taken first)

first_shape : IsTrue (are_first old_schema.tables && (nat_eq (length old_schema.indexes) 1 && nat_eq (length old_schema.views) 0))
unfolding same_name
first_shape = refl

-- of other tables no row is one of version 1
pub other_tables : (old mid : State) → HasCleanDisk mid → IsTrue mid.is_open → Stays old mid → (HasFirstTables mid.now → ⊥) → (d : List ℕ) (m : Olds) → KeepsFirst old d m → ⊥
other_tables old mid clean live stays other d m keeps =
    let spelled = (first_kept old mid stays d m keeps clean live).0 in
    other (subst (λ (s : Schema). IsTrue (are_first s.tables && (nat_eq (length s.indexes) 1 && nat_eq (length s.views) 0))) (sym spelled.schema) first_shape)

pub only_text : (s : State) (number : ℤ) (text : List ℕ) → IsTakenAs s number text → IsTaken s text
only_text s number text taken version stored tells = let it = taken version stored tells in (it.0, it.2)

-- one of version 1 isn't left as it was
pub not_first : (old new : State) (number : ℤ) (text : List ℕ) → Frame old new → (HasCleanDisk new → IsTrue new.is_open) → (HasCleanDisk new → IsTakenAs old number text)
    → (number ≡ pos first_version → ⊥) → IsUpgraded old new
not_first old new number text frame live taken other d m keeps = (λ clean. absurd (never clean), λ clean open_now. absurd (never clean))
  where
    never : HasCleanDisk new → ⊥
    never clean =
        let was = (keeps (frame.clean clean) (frame.was_open clean (live clean))).0 in
        other ((taken clean) (pos first_version) d (inl was.schema, was.about)).1

pub then_upgraded : (old mid new : State) → Stays old mid → IsUpgraded mid new → IsUpgraded old new
then_upgraded old mid new stays made d m keeps = made d m (first_kept old mid stays d m keeps)

pub stays_then : (a b c : State) → Stays a b → Stays b c → Stays a c
stays_then a b c p q clean live =
    let late = q clean live in
    let early = p late.0 late.1 in
    (early.0, early.1, late.2 ∙ early.2, late.3 ∙ early.3)

-- ---- a migration that is refused

-- only a damaged row or the disk is the cause
pub migration_excused : (old mid new : State) (e : UpgradeFault) → HasCleanDisk mid → Frame old mid → mid.faults ≤ new.faults → Stays old mid
    → (e ≡ Damaged → (d : List ℕ) (m : Olds) → KeepsFirst mid d m → AllUpgrade m → ⊥)
    → (e ≡ Database → (d : List ℕ) (m : Olds) → KeepsFirst mid d m → IsShortAbout d → AllShort (upgraded m) → HasFew m → HasFailed mid new)
    → (d : List ℕ) (m : Olds) → KeepsFirst old d m → AllUpgrade m → IsShortAbout d → AllShort (upgraded m) → HasFew m → IsOpenExcused old new (upgrade_fault e)
migration_excused old mid new Damaged clean frame counts stays damaged cause d m keeps all short rows few is = absurd (damaged refl d m (first_kept old mid stays d m keeps) all)
migration_excused old mid new Database clean frame counts stays damaged cause d m keeps all short rows few is =
    failed_then old mid new clean frame counts (cause refl d m (first_kept old mid stays d m keeps) short rows few)
migration_excused old mid new Memory clean frame counts stays damaged cause d m keeps all short rows few is = let wrong : refusal.Memory ≡ refusal.Store = is in cc

-- what isn't blank fails as either version does
pub fails_filled : {X : Type 0} (old new : State) (given : List ℕ) (r : Result X OpenStoreFault) → (IsBlank old.now → ⊥)
    → IfErr r (λ e. (version : ℤ) (d : List ℕ) → TellsAbout version d old.now → (version ≡ pos first_version → ⊥) → IsOpenExcused old new e)
    → IfErr r (λ e. (d : List ℕ) (m : Olds) → KeepsFirst old d m → AllUpgrade m → IsShortAbout d → AllShort (upgraded m) → HasFew m → IsOpenExcused old new e)
    → IfErr r (λ e. FailsByDisk old given → IsOpenExcused old new e)
fails_filled old new given (Ok x) filled known first = tt
fails_filled old new given (Err e) filled known first = λ able. elim able [
  | inl tells ↦ known tells.0 tells.1 tells.2 tells.3
  | inr (inl it) ↦ first it.0 it.1 it.2 it.3 it.4 it.5 it.6
  | inr (inr blank) ↦ absurd (filled blank.0)
]

-- what can't be read, or has been read as version 1
pub unread_or_first : {X : Type 0} (old new : State) (r : Result X OpenStoreFault) → IfErr r (λ e. e ≡ refusal.Store → IsUnread old new)
    → IfErr r (λ e. e ≡ refusal.Store → IsUnreadOrFirst old new)
unread_or_first old new (Ok x) h = tt
unread_or_first old new (Err e) h = λ is. inl (h is)

pub as_first : (old new : State) (number : ℤ) (text : List ℕ) → HasAbout old number text → number ≡ pos first_version → IsUnreadOrFirst old new
as_first old new number text has first = inr (text, subst (λ (n : ℤ). HasAbout old n text) first has)

-- what holds of a refusal for the store holds over a database that isn't blank
pub if_filled : {X : Type 0} (P Q : Type 0) (r : Result X OpenStoreFault) → IfErr r (λ e. e ≡ refusal.Store → P) → IfErr r (λ e. e ≡ refusal.Store → Q → P)
if_filled P Q (Ok x) h = tt
if_filled P Q (Err e) h = λ is q. h is

-- what is blank has tables of neither version
pub fails_blank : (old new : State) (given : List ℕ) → HasCleanDisk old → IsBlank old.now → (IsShortAbout given → HasFailed old new) → FailsByDisk old given → HasFailed old new
fails_blank old new given clean blank fails (inl tells) = absurd (blank_lacks old.now blank tells.2.0)
fails_blank old new given clean blank fails (inr (inr short)) = fails short.1
fails_blank old new given clean blank fails (inr (inl it)) = go old.is_open refl
  where
    go : (b : Bool) → old.is_open ≡ b → HasFailed old new
    go true live = absurd (blank_lacks old.now blank (inl (it.2 clean live).0.schema))
    go false shut = inr shut

-- what holds of an answer holds under a premise more
pub given_more : {X E : Type 0} (P Q : Type 0) (r : Result X E) → OnOk r P → OnOk r (Q → P)
given_more P Q (Ok x) h = λ q. h
given_more P Q (Err e) h = h
