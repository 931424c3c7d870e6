-- Changes inside a transaction, one after another, and the commit.
pub use Rattle.fv_store_tables.proofs.Steps.{frame_then, failed_then, failed_still, keeps_then, next_step, led, led_on_ok}
use Rattle.std.proofs.Common.{◌≡◌, ◌+◌, ◌<◌, ◌≤◌, zero, suc, take, get_or, IfErr, ◌++◌, length, map, ℕ, inl, inr, List, [], ◌∷◌, IsTrue, Ok, Err, Result, OnOk, true, false, refl, sym, ap, subst, ◌∙◌, arith}
use Rattle.std.specs.List.{AllByRecursion}
use Rattle.std.proofs.lemmas.List.{length-map}
use Rattle.std.proofs.lemmas.Bool.{cases_Bool}
use Rattle.sqlite.specs.Effect.{Database}
use Rattle.sqlite.specs.Order.{Row}
use Rattle.sqlite.specs.declared.error.Error.{Error}
use Rattle.sqlite.specs.State.{State, HasCleanDisk, Shows, KeepsCounts}
use Rattle.fv_bundle.specs.Bundles.{Thing}
use Rattle.fv_store.specs.declared.changes.Change.{Change}
use Rattle.fv_store.specs.Causes.{AreShort, HasRooms, IsShort, IsShortAbout, IsShortObject, LeavesRoom, WritesShort, rows_of, rows_of_all}
use Rattle.fv_store.specs.Changes.{after, after_all}
use Rattle.fv_store.specs.Records.{Kept, Records, with_record, without_record, with_object}
use Rattle.fv_store.specs.Stands.{Frame, Spells, about_rows}
use Rattle.fv_store.specs.Steps.{Advances, IsExcused, Keeps, Makes, MakesAll}
use Rattle.fv_model.specs.Writing.{named_written}
use Rattle.fv_store.specs.Written.{writings, object_kept}
use Rattle.fv_store.proofs.Kept.{rows_kept, all_kept, part_kept, kept_with, kept_without, kept_set}
use Rattle.fv_store_tables.specs.About.{Redeclares}
use Rattle.fv_store_tables.specs.Changes.{AreApart, object_view, objects_view, with_part_of}
use Rattle.fv_store_tables.specs.Causes.{IsShortHead}
use Rattle.fv_store_tables.specs.Causes as tables_short
use Rattle.fv_store_tables.specs.Stands as tables
use Rattle.fv_store_tables.specs.Stands.{Entry, TableEntries}
use Rattle.fv_store_tables.specs.declared.text.ObjectText.{ObjectText}
use Rattle.fv_store_tables.specs.Steps.{Always, Turns}
use Rattle.fv_store_tables.proofs.Composed.{fewer_rooms}

-- ---- one change

short_rows : (id : List ℕ) (os : List (List ℕ × Thing)) → AllByRecursion (IsShortObject id) os → tables_short.AreShort id (map object_kept (map named_written os))
short_rows id [] short = tt
short_rows id (o ∷ os) short = (short.0, short_rows id os short.1)

so_many : (objects : List ObjectText) (k : Kept) → objects_view objects ≡ (rows_kept k).objects → length objects ≡ length k.bundle.objects
so_many objects k same =
    sym (length-map objects object_view) ∙ ap length same ∙ length-map (map named_written k.bundle.objects) object_kept ∙ length-map k.bundle.objects named_written

module _ (id : List ℕ) (k : Kept) (objects : List ObjectText) (same : objects_view objects ≡ (rows_kept k).objects) (apart : AreApart (objects_view objects)) where
  -- as the code gives it
  abbrev pub given : Entry
  given = record { form = k.form; root = k.bundle.root; objects = objects_view objects }

  put_makes : (x y : Database) → Turns (1 + length objects) (λ _. AreApart (objects_view objects)) (tables.with_entry id given) x y → Makes (1 + length k.bundle.objects) (with_record id k) x y
  put_makes x y turns d m spelled =
      let it = turns (about_rows d) (all_kept m) spelled apart in
      let is : given ≡ rows_kept k = ap (λ os. record { form = k.form; root = k.bundle.root; objects = os }) same in
      let made = subst (λ (e : Entry). tables.TablesStand y (about_rows d) (tables.with_entry id e (all_kept m))) is it.0 in
      let count = so_many objects k same in
      (subst (tables.TablesStand y (about_rows d)) (sym (kept_with id k m)) made, λ n room. it.1 n (fewer_rooms (n + (1 + length objects)) (n + (1 + length k.bundle.objects)) x (omega (arith, count)) room))

  pub put_made : (old new : State) (r : Result (Unit {0}) Error) → OnOk r (Advances old new (Turns (1 + length objects) (λ _. AreApart (objects_view objects)) (tables.with_entry id given)))
      → OnOk r (Advances old new (Makes (1 + length k.bundle.objects) (with_record id k)))
  put_made old new r = led_on_ok old new r put_makes

  pub put_excused : (old new : State) (r : Result (Unit {0}) Error)
      → IfErr r (λ e. (d : List Row) (m : TableEntries) → tables.TablesStand old.now d m → AreApart (objects_view objects) → HasRooms (1 + length objects) old.now
      → IsShortHead id (record { form = k.form; root = k.bundle.root }) → tables_short.AreShort id (objects_view objects) → IsExcused old new e)
      → IfErr r (λ e. (d : List ℕ) (m : Records) → Spells old.now d (writings m) → HasRooms (1 + length k.bundle.objects) old.now → IsShort id k → IsExcused old new e)
  put_excused old new (Ok x) h = tt
  put_excused old new (Err e) h = λ d m spelled room short.
      let count = so_many objects k same in
      let rows : tables_short.AreShort id (objects_view objects) = subst (tables_short.AreShort id) (sym same) (short_rows id k.bundle.objects short.1) in
      h (about_rows d) (all_kept m) spelled apart (fewer_rooms (1 + length objects) (1 + length k.bundle.objects) old.now (omega (arith, count)) room) short.0 rows

set_makes : (id name : List ℕ) (t : Thing) (x y : Database) → Turns 0 Always (with_part_of id name (part_kept name t)) x y → Makes 0 (with_object id name t) x y
set_makes id name t x y turns d m spelled =
    let it = turns (about_rows d) (all_kept m) spelled tt in
    (subst (tables.TablesStand y (about_rows d)) (sym (kept_set id name t m)) it.0, it.1)

pub set_made : (id name : List ℕ) (t : Thing) (old new : State) (r : Result (Unit {0}) Error) → OnOk r (Advances old new (Turns 0 Always (with_part_of id name (part_kept name t))))
    → OnOk r (Advances old new (Makes 0 (with_object id name t)))
set_made id name t old new r = led_on_ok old new r (set_makes id name t)

remove_makes : (id : List ℕ) (x y : Database) → Turns 0 Always (tables.without_entry id) x y → Makes 0 (without_record id) x y
remove_makes id x y turns d m spelled =
    let it = turns (about_rows d) (all_kept m) spelled tt in
    (subst (tables.TablesStand y (about_rows d)) (sym (kept_without id m)) it.0, it.1)

pub remove_made : (id : List ℕ) (old new : State) (r : Result (Unit {0}) Error) → OnOk r (Advances old new (Turns 0 Always (tables.without_entry id))) → OnOk r (Advances old new (Makes 0 (without_record id)))
remove_made id old new r = led_on_ok old new r (remove_makes id)

-- why a statement is refused, said of the records that its tables keep
pub of_records : (s : State) (Refuses : Error → Type 0) (r : Result (Unit {0}) Error) → IfErr r (λ e. (d : List Row) (m : TableEntries) → tables.TablesStand s.now d m → Refuses e)
    → IfErr r (λ e. (d : List ℕ) (m : Records) → Spells s.now d (writings m) → Refuses e)
of_records s Refuses (Ok x) h = tt
of_records s Refuses (Err e) h = λ d m. h (about_rows d) (all_kept m)

-- ---- one change after another

after_all-push : (cs : List Change) (c : Change) (m : Records) → after_all (cs ++ c ∷ []) m ≡ after c (after_all cs m)
after_all-push [] c m = refl
after_all-push (x ∷ cs) c m = after_all-push cs c (after x m)

rows-push : (cs : List Change) (c : Change) → rows_of_all (cs ++ c ∷ []) ≡ rows_of_all cs + rows_of c
rows-push [] c = omega arith
rows-push (x ∷ cs) c = let rest = rows-push cs c in omega (arith, rest)

-- one change more
pub one_more : (cs : List Change) (c : Change) (x y z : Database) → MakesAll cs x y → Makes (rows_of c) (after c) y z → MakesAll (cs ++ c ∷ []) x z
one_more cs c x y z p q d m spelled =
    let made = p d m spelled in
    let more = q d (after_all cs m) made.0 in (
      subst (λ (r : Records). Spells z d (writings r)) (sym (after_all-push cs c m)) more.0,
      λ n room. more.1 n (made.1 (n + rows_of c) (fewer_rooms (n + rows_of c + rows_of_all cs) (n + rows_of_all (cs ++ c ∷ [])) x (omega (arith, rows-push cs c)) room)),
    )

-- ---- the commit

abbrev pub Committed : State → State → Type 0
Committed mid new = IsTrue mid.in_transaction × Shows mid new mid.now mid.now false × KeepsCounts mid new × (new.marks ≡ [])

-- what was made in a transaction that begins here holds where it was committed
ended : {R : Database → Database → Type 0} (old mid new : State) (P : Database → Type 0) (Q : Database → Database → Type 0) → (HasCleanDisk new → HasCleanDisk mid) → (HasCleanDisk mid → HasCleanDisk old)
    → (HasCleanDisk mid → Advances (record old { in_transaction = true }) mid R) → (HasCleanDisk new → Committed mid new) → ((x y : Database) → R x y → P x → Q x y)
    → (HasCleanDisk old → IsTrue old.is_open → P old.now × P old.committed) → HasCleanDisk new → Q old.now new.now × Q old.now new.committed
ended old mid new P Q late early step ends to keeps clean =
    let end = ends clean in
    let it = step (late clean) in
    let was = keeps (early (late clean)) (it.was_open end.1.was_open) in
    let made = to old.now mid.now it.change was.0 in
    (subst (Q old.now) (sym end.1.now_is) made, subst (Q old.now) (sym end.1.committed_is) made)

-- the changes
pub commit_on_ok : (old mid new : State) (cs : List Change) (r : Result (Unit {0}) Error) → (HasCleanDisk new → HasCleanDisk mid) → (HasCleanDisk mid → HasCleanDisk old)
    → (HasCleanDisk mid → Advances (record old { in_transaction = true }) mid (MakesAll cs)) → (HasCleanDisk new → OnOk r (Committed mid new))
    → OnOk r ((d : List ℕ) (m : Records) → Keeps old d m → Keeps new d (after_all cs m))
commit_on_ok old mid new cs (Err e) late early step ends = tt
commit_on_ok old mid new cs (Ok t) late early step ends = λ d m keeps clean live.
    ended old mid new (λ b. Spells b d (writings m)) (λ _ b. Spells b d (writings (after_all cs m))) late early step ends (λ x y made spelled. (made d m spelled).0) keeps clean

-- the rowids that they take are given out, and no more
pub commit_leaves : (old mid new : State) (cs : List Change) (r : Result (Unit {0}) Error) → (HasCleanDisk new → HasCleanDisk mid) → (HasCleanDisk mid → HasCleanDisk old)
    → (HasCleanDisk mid → Advances (record old { in_transaction = true }) mid (MakesAll cs)) → (HasCleanDisk new → OnOk r (Committed mid new))
    → HasCleanDisk new → OnOk r ((d : List ℕ) (m : Records) → Keeps old d m → LeavesRoom (rows_of_all cs) old.now new.now)
commit_leaves old mid new cs (Err e) late early step ends clean = tt
commit_leaves old mid new cs (Ok t) late early step ends clean = λ d m keeps.
    (ended old mid new (λ b. Spells b d (writings m)) (LeavesRoom (rows_of_all cs)) late early step ends (λ x y made spelled. (made d m spelled).1) keeps clean).0

-- other declarations
pub declare_on_ok : (old mid new : State) (text : List ℕ) (r : Result (Unit {0}) Error) → (HasCleanDisk new → HasCleanDisk mid) → (HasCleanDisk mid → HasCleanDisk old)
    → (HasCleanDisk mid → Advances (record old { in_transaction = true }) mid (Redeclares text)) → (HasCleanDisk new → OnOk r (Committed mid new))
    → OnOk r ((d : List ℕ) (m : Records) → Keeps old d m → Keeps new text m)
declare_on_ok old mid new text (Err e) late early step ends = tt
declare_on_ok old mid new text (Ok t) late early step ends = λ d m keeps clean live.
    ended old mid new (λ b. Spells b d (writings m)) (λ _ b. Spells b text (writings m)) late early step ends (λ x y made spelled. (made d (all_kept m) spelled).0) keeps clean

no_rowid : (old new : Database) → ((n : ℕ) → HasRooms n old → HasRooms n new) → LeavesRoom 0 old new
no_rowid old new stays n room = stays n (fewer_rooms n (n + 0) old (omega arith) room)

-- they take no rowid
pub declare_leaves : (old mid new : State) (text : List ℕ) (r : Result (Unit {0}) Error) → (HasCleanDisk new → HasCleanDisk mid) → (HasCleanDisk mid → HasCleanDisk old)
    → (HasCleanDisk mid → Advances (record old { in_transaction = true }) mid (Redeclares text)) → (HasCleanDisk new → OnOk r (Committed mid new))
    → HasCleanDisk new → OnOk r ((d : List ℕ) (m : Records) → Keeps old d m → LeavesRoom 0 old.now new.now)
declare_leaves old mid new text (Err e) late early step ends clean = tt
declare_leaves old mid new text (Ok t) late early step ends clean = λ d m keeps.
    (ended old mid new (λ b. Spells b d (writings m)) (LeavesRoom 0) late early step ends (λ x y made spelled. no_rowid x y (made d (all_kept m) spelled).1) keeps clean).0

-- ---- refusals

short_at : (cs : List Change) (i : ℕ) (c : Change) → i < length cs → AreShort cs → WritesShort (get_or cs i c)
short_at [] i c below short = absurd (omega arith)
short_at (x ∷ cs) zero c below short = short.0
short_at (x ∷ cs) (suc i) c below short = short_at cs i c (omega arith) short.1

rows_at : (cs : List Change) (i : ℕ) (c : Change) → i < length cs → rows_of (get_or cs i c) + rows_of_all (take i cs) ≤ rows_of_all cs
rows_at [] i c below = absurd (omega arith)
rows_at (x ∷ cs) zero c below = omega arith
rows_at (x ∷ cs) (suc i) c below = let rest = rows_at cs i c (omega arith) in omega (arith, rest)

-- some changes were made and the next was refused
pub step_cause : (a b c : State) (cs : List Change) (i : ℕ) (change : Change) → i < length cs → change ≡ get_or cs i change → HasCleanDisk c → Frame a b → Frame b c
    → Advances a b (MakesAll (take i cs)) → (e : Error) → ((d : List ℕ) (m : Records) → Spells b.now d (writings m) → HasRooms (rows_of change) b.now → WritesShort change → IsExcused b c e)
    → (d : List ℕ) (m : Records) → Spells a.now d (writings m) → HasRooms (rows_of_all cs) a.now → AreShort cs → IsExcused a c e
step_cause a b c cs i change below is clean before after made e h d m spelled room short refused =
    let it = made.change d m spelled in
    let least = rows_at cs i change below in
    let same : rows_of change ≡ rows_of (get_or cs i change) = ap rows_of is in
    let left = fewer_rooms (rows_of change + rows_of_all (take i cs)) (rows_of_all cs) a.now (omega (arith, least, same)) room in
    failed_then a b c (after.clean clean) before after.counts (h d (after_all (take i cs) m) it.0 (it.1 (rows_of change) left) (subst WritesShort (sym is) (short_at cs i change below short)) refused)

-- a change was refused, and the transaction was undone
pub make_cause : (old mid new : State) (cs : List Change) → HasCleanDisk old → mid.faults ≤ new.faults → (e : Error)
    → ((d : List ℕ) (m : Records) → Spells old.now d (writings m) → HasRooms (rows_of_all cs) old.now → AreShort cs → IsExcused (record old { in_transaction = true }) mid e)
    → (d : List ℕ) (m : Records) → Keeps old d m → HasRooms (rows_of_all cs) old.now → AreShort cs → IsExcused old new e
make_cause old mid new cs clean up e h d m keeps room short refused = elim (cases_Bool old.is_open) [
  | inl live ↦ failed_still old mid new up (h d m (keeps clean live).0 room short refused)
  | inr shut ↦ inr shut
]

-- the declarations were refused, and the transaction was undone
pub declare_cause : (old mid new : State) (text : List ℕ) → HasCleanDisk old → mid.faults ≤ new.faults → (e : Error)
    → ((d : List ℕ) (m : TableEntries) → tables.TablesStand old.now (about_rows d) m → IsShortAbout text → IsExcused (record old { in_transaction = true }) mid e)
    → (d : List ℕ) (m : Records) → Keeps old d m → IsShortAbout text → IsExcused old new e
declare_cause old mid new text clean up e h d m keeps short refused = elim (cases_Bool old.is_open) [
  | inl live ↦ failed_still old mid new up (h d (all_kept m) (keeps clean live).0 short refused)
  | inr shut ↦ inr shut
]
