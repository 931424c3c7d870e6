-- What an open finds and leaves.
use Rattle.std.proofs.Common.{◌≡◌, ◌≢◌, ◌⊎◌, ◌||◌, ℕ, ℤ, pos, Bool, true, false, not, cond, length, List, [], ◌∷◌, slice_get, Option, Some, None, Result, Ok, Err, IfOk, IfErr, IsTrue, inl, inr, refl, sym, ap, subst, ◌∙◌}
use Rattle.std.specs.Ordering.{int_eq}
use Rattle.sqlite.specs.Schema.{Schema}
use Rattle.sqlite.specs.declared.error.Error.{Error}
use Rattle.sqlite.specs.Effect.{Database}
use Rattle.sqlite.specs.Order.{Row, column}
use Rattle.sqlite.specs.declared.types.Value.TheVariants.{Int, Blob}
use Rattle.sqlite.specs.State.{State, Begins, HasCleanDisk, Shown}
use Rattle.fv_datum.specs.Outcomes.{Gives, unless_fault}
use Rattle.fv_store.specs.declared.fault.OpenStoreFault.{OpenStoreFault}
use Rattle.fv_store.specs.declared.fault.OpenStoreFault.TheVariants.{OtherVersion, Store, Memory}
use Rattle.fv_store.specs.Causes.{HasFailed}
use Rattle.fv_store.specs.Faults.{about_fault, open_fault_of, IsAboutFault}
use Rattle.fv_store.specs.Records.{Kept, Records, Contents, AllFit, no_records, with_records}
use Rattle.fv_store_tables.specs.About.{HasTables, ShowsAbout, about_query, shown_about}
use Rattle.fv_store_tables.specs.Tables.{store_schema}
use Rattle.fv_store.specs.declared.about.About.{About}
use Rattle.fv_store.specs.Stands.{Frame, Stands, StandsFirst, HoldsRecords, HoldsFirst, Opens, HasAbout, IsBlank, IsEither, IsTakenWith, MayBeFirst, ShowsFirst, Stays, TellsAbout, about_rows, first_version, olds, tables_version}
use Rattle.fv_store.specs.Steps.{CausesStore, FailsByDisk, Keeps, IsTaken, IsTakenAs, IsCaused, IsRefusal, IsOpenExcused, IsUnread, IsUnreadOrFirst, IsUpgraded}
use Rattle.fv_store.specs.Stored.{Told, about_view, told}
use Rattle.fv_store.proofs.Upgraded.{upgraded_olds}
use Rattle.fv_bundle.specs.Types.{has_deep}
use Rattle.fv_store_tables.specs.Stands as tables

-- a frame says nothing of the limit on steps
pub unlimited : (old new : State) → Frame (record old { step_limit = None }) new → Frame old new
unlimited old new f = record { clean = f.clean; was_open = f.was_open; counts = f.counts; closes = f.closes }

-- and so does what a query shows first
first_unlimited : (s : State) (row : Row) → ShowsFirst (record s { step_limit = None }) row → ShowsFirst s row
unfolding Begins
first_unlimited s row h = (h.0, record { is = h.1.is; whole = h.1.whole; given = h.1.given; now = h.1.now }, h.2, h.3, h.4, h.5)

pub about_unlimited : (s : State) (version : ℤ) (text : List ℕ) → HasAbout (record s { step_limit = None }) version text → HasAbout s version text
about_unlimited s version text h = (h.0, (h.1.0, first_unlimited s h.1.0 h.1.1, h.1.2, h.1.3))

pub taken_unlimited : (s : State) (text : List ℕ) → IsTakenWith text (record s { step_limit = None }) → IsTakenWith text s
taken_unlimited s text h = (h.0, about_unlimited s h.0 text h.1, h.2)

pub still_unlimited : (s new : State) → ((IsBlank s.now → ⊥) → Stays (record s { step_limit = None }) new ⊎ (HasCleanDisk new → MayBeFirst (record s { step_limit = None })))
    → (IsBlank s.now → ⊥) → Stays s new ⊎ (HasCleanDisk new → MayBeFirst s)
still_unlimited s new still filled = elim (still filled) [
  | inl stays ↦ inl stays
  | inr first ↦ inr (λ clean. let it = first clean in (it.0, (it.1.0, about_unlimited s (pos first_version) it.1.0 it.1.1), it.2))
]

pub caused_unlimited : (s : State) (e : OpenStoreFault) → IsCaused (record s { step_limit = None }) e → IsCaused s e
caused_unlimited s e h = λ fault.
    let it = h fault in
    (it.0, it.1, (it.2.0, it.2.1, first_unlimited s it.2.1 it.2.2, it.2.3, it.2.4), it.3)

-- why an open tells Store, by what is known where the steps have no limit
pub causes_store : (old new : State) (given : List ℕ) → (FailsByDisk old given → HasFailed old new) → ((IsBlank old.now → ⊥) → IsUnreadOrFirst (record old { step_limit = None }) new) → CausesStore old new given
causes_store old new given fails unread = record {
  second = λ version kept tells other. fails (inl (version, kept, tells, other));
  first = λ kept m keeps all short rows few. fails (inr (inl (kept, m, keeps, all, short, rows, few)));
  blank = λ blank short. fails (inr (inr (blank, short)));
  other = λ filled. elim (unread filled) [
    | inl unread ↦ inl unread
    | inr first ↦ inr (first.0, about_unlimited old (pos first_version) first.0 first.1)
  ];
}

-- ---- the row of `about`

abbrev Answer : Type 0 → Type 0
Answer X = Result X OpenStoreFault

abbrev Judges : {X : Type 0} → (X → Told) → Answer X → Option OpenStoreFault → Told → Type 0
Judges view r o stored = Gives Memory view r (unless_fault o stored)

-- what a row that tells its version and its declarations is judged as
abbrev JudgesAll : {X : Type 0} → (X → Told) → State → Answer X → Type 0
JudgesAll view s r = (version : ℤ) (d : List ℕ) → TellsAbout version d s.now → Judges view r (about_fault version) (told version d)

pub about_first : (rows : List Row) (version : ℤ) (d : List ℕ) (row : Row) → Some row ≡ slice_get rows 0 → ShowsAbout rows version d → row ≡ shown_about version d
about_first [] version d row some h = absurd cc
about_first (r ∷ rows) version d row some h = let same : row ≡ r = cc in same ∙ h

pub about_never : (rows : List Row) (version : ℤ) (d : List ℕ) → None ≡ slice_get rows 0 → ShowsAbout rows version d → ⊥
about_never [] version d none h = h
about_never (row ∷ rows) version d none h = absurd cc

-- a row that isn't read is why it is unread
pub odd_unread : {X : Type 0} (old new : State) (row : Row) (r : Answer X) → ShowsFirst old row
    → IfErr r (λ e. e ≡ Store → (version : ℤ) → column row 0 ≡ Int version → IsEither version × ((stored : List ℕ) → column row 1 ≡ Blob stored → ⊥))
    → IfErr r (λ e. e ≡ Store → IsUnread old new)
odd_unread old new row (Ok x) shows h = tt
odd_unread old new row (Err e) shows h = λ is. inr (inr (row, shows, h is))

-- a query that shows no row
pub none_unread : (old new : State) (rows : List Row) → None ≡ slice_get rows 0 → Shown about_query [] old new rows → IsUnread old new
none_unread old new [] none shown = inr (inl shown)
none_unread old new (row ∷ rows) none shown = absurd cc

-- what is read of the first row that is shown
pub about_had : (s : State) (row : Row) (r : Answer About) → ShowsFirst s row → IfOk r (λ a. IsEither a.version × (column row 0 ≡ Int a.version) × (column row 1 ≡ Blob a.declarations.items))
    → IfOk r (λ a. HasAbout s a.version a.declarations.items)
about_had s row (Err e) shows h = tt
about_had s row (Ok a) shows h = (h.0, (row, shows, h.1, h.2))

judges_ok : {X : Type 0} (view : X → Told) (x : X) (o : Option OpenStoreFault) (stored : Told) → Judges view (Ok x) o stored → (o ≡ None) × (view x ≡ stored)
judges_ok view x None stored h = (refl, let same : stored ≡ view x = cc in sym same)
judges_ok view x (Some e) stored h = absurd cc

is_not_memory : (e : OpenStoreFault) → IsAboutFault e → e ≢ Memory
is_not_memory OtherVersion h is = cc
is_not_memory Store h is = h
is_not_memory Memory h is = h

is_fault : (e : OpenStoreFault) (o : Option OpenStoreFault) (stored : Told) → ◌≡◌ {A = Answer Told} (unless_fault o stored) (Err e) → o ≡ Some e
is_fault e None stored h = absurd cc
is_fault e (Some f) stored h = let same : f ≡ e = cc in ap Some same

pub taken_all : (s : State) (row : Row) (r : Answer About) → IfOk r (λ a. IsEither a.version × (column row 0 ≡ Int a.version) × (column row 1 ≡ Blob a.declarations.items)) → JudgesAll about_view s r
    → IfOk r (λ a. IsTakenAs s a.version a.declarations.items)
taken_all s row (Err e) of h = tt
taken_all s row (Ok a) of h = λ version d tells.
    let it = judges_ok about_view a (about_fault version) (told version d) (h version d tells) in
    let same = ap (λ (t : Told). t.0) it.1 in
    (subst IsEither same of.0, same, ap (λ (t : Told). t.1) it.1)

pub caused_all : {X : Type 0} (view : X → Told) (s : State) (row : Row) (r : Answer X) → IsTrue s.is_open → (IsBlank s.now → ⊥) → ShowsFirst s row
    → IfErr r (λ e. IsAboutFault e → (version : ℤ) × (column row 0 ≡ Int version) × (IsEither version → ⊥)) → JudgesAll view s r → IfErr r (IsCaused s)
caused_all view s row (Ok x) live filled shows other h = tt
caused_all view s row (Err e) live filled shows other h = λ fault.
    let it = other fault in
    (live, filled, (it.0, row, shows, it.1, it.2), λ version d tells. is_fault e (about_fault version) (told version d) (h version d tells (is_not_memory e fault)))

never_store : (version : ℤ) → about_fault version ≡ Some Store → ⊥
never_store version = go (not (int_eq version (pos first_version) || int_eq version (pos tables_version)))
  where
    go : (a : Bool) → ◌≡◌ {A = Option OpenStoreFault} (cond a (Some OtherVersion) None) (Some Store) → ⊥
    go true h = cc
    go false h = cc

-- the row of `about` is no cause for `Store`
pub excused_all : {X : Type 0} (view : X → Told) (old new : State) (r : Answer X) → JudgesAll view old r
    → IfErr r (λ e. (version : ℤ) (d : List ℕ) → TellsAbout version d old.now → IsOpenExcused old new e)
excused_all view old new (Ok x) h = tt
excused_all view old new (Err e) h = λ version d tells is.
    absurd (never_store version (is_fault e (about_fault version) (told version d) (h version d tells (λ memory. let wrong : Store ≡ Memory = sym is ∙ memory in cc)) ∙ ap Some is))

-- a refusal of the database
pub is_refusal : (e : Error) → open_fault_of e ≡ Store → IsRefusal e
is_refusal e is memory = let wrong : Memory ≡ Store = sym (ap open_fault_of memory) ∙ is in cc

-- a version of the two is taken
pub either_taken : (version : ℤ) → IsEither version → about_fault version ≡ None
either_taken version (inl is) = ap about_fault is
either_taken version (inr is) = ap about_fault is

pub no_version : ◌≡◌ {A = Option OpenStoreFault} None (Some OtherVersion) → ⊥
no_version h = let never : ◌≡◌ {A = Option OpenStoreFault} None (Some OtherVersion) = h in cc

-- ---- a blank database

zero_is_not_three : ◌≢◌ {A = ℕ} 0 3
zero_is_not_three e = cc

pub never_blank : (db : Database) → IsBlank db → db.schema ≡ store_schema → ⊥
never_blank db blank is = zero_is_not_three (ap (λ (s : Schema). length s.tables) (sym blank ∙ is))

zero_is_not_two : ◌≢◌ {A = ℕ} 0 2
zero_is_not_two e = cc

pub blank_lacks : (db : Database) → IsBlank db → HasTables db → ⊥
blank_lacks db blank (inl is) = zero_is_not_two (ap (λ (s : Schema). length s.tables) (sym blank ∙ is))
blank_lacks db blank (inr is) = never_blank db blank is

-- ---- what stands

pub keeps_of : (s : State) (k : Contents) → HoldsRecords s k → Keeps s k.bytes k.records
keeps_of s k holds clean live = let it = holds clean live in (it.0.spells, it.1.spells)

-- what is kept of records that fit stands
pub holds_as : (old new : State) (k after : Contents) → Frame old new
    → (Keeps old k.bytes k.records → Keeps new after.bytes after.records) → (AllFit k → AllFit after) → HoldsRecords old k → HoldsRecords new after
holds_as old new k after frame keeps fit holds sure live =
    let was = holds (frame.clean sure) (frame.was_open sure live) in
    let now = keeps (keeps_of old k holds) sure live in
    (record { spells = now.0; fit = fit was.0.fit }, record { spells = now.1; fit = fit was.1.fit })

pub holds_after : (old new : State) (k : Contents) (after : Records) → Frame old new
    → (Keeps old k.bytes k.records → Keeps new k.bytes after) → (AllFit k → AllFit (with_records after k)) → HoldsRecords old k → HoldsRecords new (with_records after k)
holds_after old new k after = holds_as old new k (with_records after k)

no_record : (o : Option Kept) → o ≡ None → (kept : Kept) → o ≡ Some kept → ⊥
no_record o none kept some = cc

-- what stands tells its version and its declarations
tells_second : {db : Database} (k : Contents) → Stands db k → TellsAbout (pos tables_version) k.bytes db
tells_second k stands = (inr stands.spells.schema, stands.spells.about)

-- the same of version 1
tells_first : {db : Database} (k : Contents) → StandsFirst db k → TellsAbout (pos first_version) k.bytes db
tells_first k stands = (inl stands.spells.schema, stands.spells.about)

second_is_not_first : ◌≢◌ {A = ℤ} (pos tables_version) (pos first_version)
second_is_not_first e = cc

module _ (old new : State) (frame : Frame old new) where
  pub holds_still : ((d : List ℕ) (m : Records) → Keeps old d m → Keeps new d m) → (k : Contents) → HoldsRecords old k → HoldsRecords new k
  holds_still stays k = holds_after old new k k.records frame (stays k.bytes k.records) (λ fit. fit)

  -- what stands by version 2 stays
  holds_stays : ((IsBlank old.now → ⊥) → Stays old new ⊎ (HasCleanDisk new → MayBeFirst old)) → (k : Contents) → HoldsRecords old k → HoldsRecords new k
  holds_stays still k holds sure live =
      let was = holds (frame.clean sure) (frame.was_open sure live) in
      at was (still (λ blank. never_blank old.now blank was.0.spells.schema))
    where
      at : Stands old.now k × Stands old.committed k → Stays old new ⊎ (HasCleanDisk new → MayBeFirst old) → Stands new.now k × Stands new.committed k
      at was (inl stays) =
          let it = stays sure live in
          (subst (λ db. Stands db k) (sym it.2) was.0, subst (λ db. Stands db k) (sym it.3) was.1)
      at was (inr first) = absurd (second_is_not_first ((first sure).2 (pos tables_version) k.bytes (tells_second k was.0)))

  -- and what stands by version 1 is migrated
  holds_first : IsUpgraded old new → (k : Contents) → has_deep k.types ≡ false → HoldsFirst old k → HoldsRecords new k
  holds_first made k shallow holds sure live =
      let was = holds (frame.clean sure) (frame.was_open sure live) in
      let it = (made k.bytes (olds k.records) (λ clean is. let w = holds clean is in (w.0.spells, w.1.spells))).1 sure live in
      let same = upgraded_olds k.types k.records shallow (λ id kept known. (was.0.fit id kept known).typed) in (
        record { spells = subst (tables.TablesStand new.now (about_rows k.bytes)) same it.0; fit = was.0.fit },
        record { spells = subst (tables.TablesStand new.committed (about_rows k.bytes)) same it.1; fit = was.1.fit },
      )

  -- what is opened over a blank database, or over one that stands, stands
  pub opens_ok : (given text : List ℕ) → (IsBlank old.now → (text ≡ given) × Keeps new given no_records) → ((IsBlank old.now → ⊥) → Stays old new ⊎ (HasCleanDisk new → MayBeFirst old))
      → IsUpgraded old new → (k : Contents) → has_deep k.types ≡ false → Opens old given k → HoldsRecords new k
  opens_ok given text fresh still made k shallow (inr (inl holds)) = holds_stays still k holds
  opens_ok given text fresh still made k shallow (inr (inr holds)) = holds_first made k shallow holds
  opens_ok given text fresh still made k shallow (inl blank) = λ sure live.
      let was = blank (frame.clean sure) (frame.was_open sure live) in
      let none = subst (λ (d : List ℕ). Keeps new d k.records) (sym was.1) (subst (Keeps new given) (sym was.2) (fresh was.0).1) sure live in
      let fit : AllFit k = λ id kept known. absurd (no_record (k.records id) (ap (λ (m : Records). m id) was.2) kept known) in
      (record { spells = none.0; fit = fit }, record { spells = none.1; fit = fit })

  pub opens_err : Stays old new → (given : List ℕ) (k : Contents) → Opens old given k → Opens new given k
  opens_err untouched given k (inr (inl holds)) = inr (inl (λ sure live.
      let was = holds (frame.clean sure) (frame.was_open sure live) in
      let it = untouched sure live in
      (subst (λ db. Stands db k) (sym it.2) was.0, subst (λ db. Stands db k) (sym it.3) was.1)))
  opens_err untouched given k (inr (inr holds)) = inr (inr (λ sure live.
      let was = holds (frame.clean sure) (frame.was_open sure live) in
      let it = untouched sure live in
      (subst (λ db. StandsFirst db k) (sym it.2) was.0, subst (λ db. StandsFirst db k) (sym it.3) was.1)))
  opens_err untouched given k (inl blank) = inl (λ sure live.
      let was = blank (frame.clean sure) (frame.was_open sure live) in
      let it = untouched sure live in
      (subst IsBlank (sym it.2) was.0, was.1, was.2))

-- ---- a database that is blank or stands

-- what is opened isn't of another version
pub opens_version : (s : State) (given : List ℕ) (k : Contents) → HasCleanDisk s → IsCaused s OtherVersion → Opens s given k → ⊥
opens_version s given k clean cause (inl blank) = let is = cause tt in is.1 (blank clean is.0).0
opens_version s given k clean cause (inr (inl holds)) = let is = cause tt in no_version (is.3 (pos tables_version) k.bytes (tells_second k (holds clean is.0).0))
opens_version s given k clean cause (inr (inr holds)) = let is = cause tt in no_version (is.3 (pos first_version) k.bytes (tells_first k (holds clean is.0).0))

-- and its declarations are in force, or those given for a blank one
pub opens_text : (s : State) (given text : List ℕ) → HasCleanDisk s → IsTrue s.is_open → (IsBlank s.now → text ≡ given) → IsTaken s text → (k : Contents) → Opens s given k → text ≡ k.bytes
opens_text s given text clean live fresh taken k (inl blank) = let was = blank clean live in fresh was.0 ∙ sym was.1
opens_text s given text clean live fresh taken k (inr (inl holds)) = (taken (pos tables_version) k.bytes (tells_second k (holds clean live).0)).1
opens_text s given text clean live fresh taken k (inr (inr holds)) = (taken (pos first_version) k.bytes (tells_first k (holds clean live).0)).1
