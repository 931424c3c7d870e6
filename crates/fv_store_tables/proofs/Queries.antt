-- What the queries show, and what they leave.
use Rattle.std.proofs.Common.{◌≡◌, ◌<◌, inl, inr, true, false, length, ℕ, List, [], ◌∷◌, map, Option, Some, None, Ok, Err, Result, IfOk, IfErr, OnOk, IsTrue, IsUtf8, ◌⊎◌, Vec, slice_get, codes, refl, sym, ap, subst, ◌∙◌, arith}
use Rattle.std.specs.List.{AllByRecursion}
use Rattle.std.proofs.lemmas.Slice.Eq.{bytes_eq-Decides}
use Rattle.sqlite.specs.Effect.{Database, RefusesToRead}
use Rattle.sqlite.specs.declared.types.Value.TheVariants.{Null, Text}
use Rattle.sqlite.specs.Order.{Row, column, bytes}
use Rattle.sqlite.specs.Schema.{Schema}
use Rattle.sqlite_resolve.specs.declared.compiled.Compiled.{Compiled}
use Rattle.sqlite_schema.specs.declared.command.Returning.{Returning}
use Rattle.sqlite.specs.declared.error.Error.{Error}
use Rattle.std.specs.declared.alloc.Global.{Global}
use Rattle.sqlite.specs.Term.{col}
use Rattle.sqlite.specs.Command.TheVariants.{Select}
use Rattle.sqlite.specs.Query.{IsAnswer}
use Rattle.sqlite.specs.Program.{overlay}
use Rattle.sqlite.specs.Tree.{Trees}
use Rattle.sqlite.specs.State.{State, HasCleanDisk, Shown, ShowsRows, IsUnchanged, IsRolledBack, FailsToQuery, FailsToShow, IsNotRun}
use Rattle.sqlite.specs.Clock.{timed}
use Rattle.sqlite.specs.Listing.{understood}
use Rattle.sqlite.proofs.Callers.{IsPlain, reads_as}
use Rattle.sqlite_rules.specs.Lists.{Has}
use Rattle.fv_store_tables.specs.Tables.{store_schema}
use Rattle.fv_store_tables.specs.Rows.{HasRows}
use Rattle.fv_store_tables.specs.Changes.{AllTexts, IsNamed}
use Rattle.fv_store_tables.specs.Stored.{LacksId, front_two}
use Rattle.fv_store_tables.specs.Stands.{Head, ObjectTexts, ObjectKey, Maps, Entry, TableEntries, Frame, IsSettled, SpellsTables, TablesStand, tables_of, Stays, Keeps, head_row, part_row, IsTextHead, IsTextOfHead, IsTextObject, IsTextPart, head_of, object_texts, shown_head, shown_part, ShowsHead}
use Rattle.std.proofs.lemmas.Bool.{cases_Bool}
use Rattle.sqlite_typing.specs.Types.{accepts_program}
use Rattle.sqlite_tied.specs.Compute.{everything}
use Rattle.fv_store_tables.specs.Causes.{IsExcused}
use Rattle.fv_store_tables.proofs.Refusals.{no_sum, never_steps, query_cause}
use Rattle.fv_store_tables.proofs.Texts.{find_text, find_query, find_is, find_plain, find_whole, find_unlisted, parts_text, parts_query, parts_is, parts_plain, parts_whole, parts_unlisted, by_first}
use Rattle.fv_store_tables.proofs.Layouts.{heads, parts}
use Rattle.fv_store_tables.proofs.OneTable.{head_by_id, row_by_id, shown_sound, shown_complete}
use Rattle.fv_store_tables.proofs.Ordered.{shows_objects, has_part}

module _ (db : Trees) (m : List ℕ → Option Head) (id : List ℕ) (rows : List Row) (s : HasRows head_row IsTextHead (db 1) m) (a : IsAnswer find_query (overlay db []) (Text id ∷ []) rows) where
  found_sound : (x : Row) → Has rows x → (h : Head) × (m id ≡ Some h) × (x ≡ shown_head h) × IsTextOfHead h
  found_sound x h =
      let r = shown_sound 1 by_first (col 1 2 ∷ col 1 3 ∷ []) [] (overlay db []) (Text id ∷ []) rows a x h in
      let it = s.sound r.0 r.1 in
      let key : it.key ≡ id = (bytes_eq-Decides it.key id).0 (sym (head_by_id m id [] r.0 it) ∙ r.2) in
      (it.value, ap m (sym key) ∙ it.known, r.3 ∙ ap (λ (v : Row). column v 2 ∷ column v 3 ∷ []) it.is, (it.good.1, it.good.2))

  found_complete : (h : Head) → m id ≡ Some h → Has rows (shown_head h)
  found_complete h is =
      let there = s.complete id h is in
      let row = head_row there.0 id h in
      let it = s.sound row there.1 in
      let key : id ≡ it.key = heads.keyed there.0 it.number id it.key h it.value it.is in
      let passes = head_by_id m id [] row it ∙ (bytes_eq-Decides it.key id).1 (sym key) in
      shown_complete 1 by_first (col 1 2 ∷ col 1 3 ∷ []) [] (overlay db []) (Text id ∷ []) rows a row there.1 passes

  answered : (o : Option Head) → m id ≡ o → (l : List Row) → rows ≡ l → ShowsHead l o
  answered None is [] same = refl
  answered (Some e) is [] same = absurd (subst (λ l. Has l (shown_head e)) same (found_complete e is))
  answered o is (x ∷ l) same =
      let it = found_sound x (subst (λ k. Has k x) (sym same) (inl refl)) in
      (it.0, sym is ∙ it.1, it.2, it.3)

pub finds : (old new : State) (id : List ℕ) (rows : List Row) (d : List Row) (t : Maps) → SpellsTables old.now d t → Shown find_text (Text id ∷ []) old new rows → ShowsHead rows (t.heads id)
finds old new id rows d t was h =
    let read = reads_as find_text (Text id ∷ []) old new store_schema was.schema (Select (record { lets = []; body = find_query }) (codes "form" ∷ codes "root" ∷ [])) find_is find_plain find_unlisted rows h in
    answered old.now.trees t.heads id rows was.heads (read.answer Null) (t.heads id) refl rows refl

pub finds_objects : (old new : State) (id : List ℕ) (rows : List Row) (d : List Row) (m : TableEntries) → TablesStand old.now d m → Shown parts_text (Text id ∷ []) old new rows
    → (k : Entry) → m id ≡ Some k → IsNamed k.objects → rows ≡ map shown_part k.objects
finds_objects old new id rows d m was h k has named =
    let read = reads_as parts_text (Text id ∷ []) old new store_schema was.schema (Select (record { lets = []; body = parts_query }) (codes "name" ∷ codes "kind" ∷ codes "fields" ∷ [])) parts_is parts_plain parts_unlisted rows h in
    shows_objects old.now.trees (λ at. object_texts at.1 (m at.0)) id rows was.parts (read.answer Null) k.objects named (λ name. ap (object_texts name) has)

-- the text has no RETURNING
abbrev pub IsBare : Schema → List ℕ → Type 0
IsBare s sql = (c : Compiled) → understood s sql ≡ Ok c → c.returning ≡ None

-- a query leaves the database as it was
pub still : (sql : List ℕ) (params : Row) (old new : State) (rows : List Row) → IsBare old.now.schema sql → Shown sql params old new rows → IsUnchanged old new
unfolding Shown
still sql params old new rows bare h = (subst (ShowsRows old new sql h.0 (timed params h.0.formats h.1.now) rows) (bare h.0 h.1.is) h.2).3

pub plain_is_bare : (s : Schema) (sql : List ℕ) → IsPlain (understood s sql) → IsBare s sql
plain_is_bare s sql plain c is = (subst IsPlain is plain).0

-- ---- what a query leaves

unchanged_holds : (old new : State) (d : List Row) (m : TableEntries) → IsUnchanged old new → Keeps old d m → HasCleanDisk old → Keeps new d m
unchanged_holds old new d m same holds clean _ live =
    let was = holds clean same.0.was_open in
    (subst (λ b. TablesStand b d m) (sym same.0.now_is) was.0, subst (λ b. TablesStand b d m) (sym same.0.committed_is) was.1)

back_holds : (old new : State) (d : List Row) (m : TableEntries) → IsRolledBack old new → Keeps old d m → HasCleanDisk old → Keeps new d m
back_holds old new d m back holds clean _ live =
    let was = holds clean (back.was_open live) in
    let undone = back.undone live in
    (subst (λ b. TablesStand b d m) (sym undone.0) was.1, subst (λ b. TablesStand b d m) (sym undone.1) was.1)

-- a query that is refused changes nothing, or rolls back
pub refused_holds : (sql : List ℕ) (params : Row) (old new : State) (e : Error) → FailsToQuery sql params old new e → IsUnchanged old new ⊎ IsRolledBack old new
unfolding FailsToQuery IsNotRun
refused_holds sql params old new e (inl (inl h)) = inl h.1
refused_holds sql params old new e (inl (inr h)) = inr h.3
refused_holds sql params old new e (inr h) = go h.0.returning h.2
  where
    go : (o : Option Returning) → FailsToShow old new sql h.0 (timed params h.0.formats h.1.now) e o → IsUnchanged old new ⊎ IsRolledBack old new
    go None it = inl it.3
    go (Some what) (inl it) = inl it.1
    go (Some what) (inr fails) = inr fails.3

pub shown_open : (sql : List ℕ) (params : Row) (old new : State) (rows : List Row) → Shown sql params old new rows → IsTrue old.is_open
unfolding Shown
shown_open sql params old new rows h = go h.0.returning h.2
  where
    go : (o : Option Returning) → ShowsRows old new sql h.0 (timed params h.0.formats h.1.now) rows o → IsTrue old.is_open
    go None it = it.3.0.was_open
    go (Some what) it = it.1.shown.was_open

-- a plain query holds the records, whatever it answers
module _ (sql : List ℕ) (params : Row) (old new : State) (plain : IsPlain (understood store_schema sql)) (clean : HasCleanDisk old) where
  pub query_holds : (r : Result (Vec Row Global) Error) → IfOk r (λ rows. Shown sql params old new rows.items) → IfErr r (FailsToQuery sql params old new)
      → (d : List Row) (m : TableEntries) → Keeps old d m → Keeps new d m
  query_holds (Ok rows) ok err d m holds =
      let was = (holds clean (shown_open sql params old new rows.items ok)).0 in
      unchanged_holds old new d m (still sql params old new rows.items (subst (λ s. IsBare s sql) (sym was.schema) (plain_is_bare store_schema sql plain)) ok) holds clean
  query_holds (Err e) ok err d m holds = elim (refused_holds sql params old new e err) [
    | inl same ↦ unchanged_holds old new d m same holds clean
    | inr back ↦ back_holds old new d m back holds clean
  ]

pub query_open : (sql : List ℕ) (params : Row) (old new : State) (r : Result (Vec Row Global) Error) → IfOk r (λ rows. Shown sql params old new rows.items) → IfErr r (FailsToQuery sql params old new)
    → IsTrue new.is_open → IsTrue old.is_open
query_open sql params old new (Ok rows) ok err live = shown_open sql params old new rows.items ok
query_open sql params old new (Err e) ok err live = elim (refused_holds sql params old new e err) [ inl same ↦ same.0.was_open | inr back ↦ back.was_open live ]

-- a plain query that answers leaves the database as it was
pub query_same : (sql : List ℕ) (params : Row) (old new : State) → IsPlain (understood store_schema sql) → HasCleanDisk old → (r : Result (Vec Row Global) Error)
    → IfOk r (λ rows. Shown sql params old new rows.items) → OnOk r ((d : List Row) (m : TableEntries) → Keeps old d m → new.now ≡ old.now)
query_same sql params old new plain clean (Err e) ok = tt
query_same sql params old new plain clean (Ok rows) ok = λ d m keeps.
    let was = (keeps clean (shown_open sql params old new rows.items ok)).0 in
    (still sql params old new rows.items (subst (λ s. IsBare s sql) (sym was.schema) (plain_is_bare store_schema sql plain)) ok).0.now_is

-- a plain query leaves a database as it was where nothing waits to be committed
module _ (old new : State) (clean : HasCleanDisk old) (settled : IsSettled old) where
  same_stays : IsUnchanged old new → Stays old new
  same_stays same _ live = (clean, same.0.was_open, same.0.now_is, same.0.committed_is)

  back_stays : IsRolledBack old new → Stays old new
  back_stays back _ live = let undone = back.undone live in let was = back.was_open live in (clean, was, undone.0 ∙ sym (settled was), undone.1)

  pub query_stays : (sql : List ℕ) (params : Row) → IsBare old.now.schema sql → (r : Result (Vec Row Global) Error) → IfOk r (λ rows. Shown sql params old new rows.items)
      → IfErr r (FailsToQuery sql params old new) → Stays old new
  query_stays sql params bare (Ok rows) ok err = same_stays (still sql params old new rows.items bare ok)
  query_stays sql params bare (Err e) ok err = elim (refused_holds sql params old new e err) [ inl same ↦ same_stays same | inr back ↦ back_stays back ]

-- and so does one that is plain where the records are kept
module _ (sql : List ℕ) (params : Row) (old new : State) (plain : IsPlain (understood store_schema sql)) (clean : HasCleanDisk old) (settled : IsSettled old) where
  pub kept_stays : (r : Result (Vec Row Global) Error) → IfOk r (λ rows. Shown sql params old new rows.items) → IfErr r (FailsToQuery sql params old new)
      → (d : List Row) (m : TableEntries) → Keeps old d m → Stays old new
  kept_stays (Ok rows) ok err d m keeps =
      let was = (keeps clean (shown_open sql params old new rows.items ok)).0 in
      same_stays old new clean settled (still sql params old new rows.items (subst (λ s. IsBare s sql) (sym was.schema) (plain_is_bare store_schema sql plain)) ok)
  kept_stays (Err e) ok err d m keeps = elim (refused_holds sql params old new e err) [ inl same ↦ same_stays old new clean settled same | inr back ↦ back_stays old new clean settled back ]

-- one query and then another leave it so
pub stays_then : (a b c : State) → Frame b c → IsSettled a → Stays a b → (IsSettled b → Stays b c) → Stays a c
stays_then a b c frame settled first then_second clean live =
    let mid = first (frame.clean clean) (frame.was_open clean live) in
    let last = then_second (λ _. mid.2 ∙ settled mid.1 ∙ sym mid.3) clean live in
    (mid.0, mid.1, last.2 ∙ mid.2, last.3 ∙ mid.3)

-- a query that answers leaves the connection open
shown_live : (sql : List ℕ) (params : Row) (old new : State) (rows : List Row) → Shown sql params old new rows → IsTrue new.is_open
unfolding Shown
shown_live sql params old new rows h = go h.0.returning h.2
  where
    go : (o : Option Returning) → ShowsRows old new sql h.0 (timed params h.0.formats h.1.now) rows o → IsTrue new.is_open
    go None it = it.3.0.is_open
    go (Some what) it = it.1.shown.is_open

pub query_live : (sql : List ℕ) (params : Row) (old new : State) (r : Result (Vec Row Global) Error) → (HasCleanDisk new → IfOk r (λ rows. Shown sql params old new rows.items))
    → OnOk r (HasCleanDisk new → IsTrue new.is_open)
query_live sql params old new (Ok rows) ok = λ clean. shown_live sql params old new rows.items (ok clean)
query_live sql params old new (Err e) ok = tt

module _ (old new : State) (clean : HasCleanDisk old) where
  pub find_shown : (id : List ℕ) (r : Result (Vec Row Global) Error) → IfOk r (λ rows. Shown find_text (Text id ∷ []) old new rows.items)
      → IfOk r (λ rows. IsTrue old.is_open × ((d : List Row) (m : TableEntries) → Keeps old d m → ShowsHead rows.items (head_of (m id))))
  find_shown id (Err e) h = tt
  find_shown id (Ok rows) h = let live = shown_open _ _ old new rows.items h in (live, λ d m keeps. finds old new id rows.items d (tables_of m) (keeps clean live).0 h)

  pub objects_shown : (id : List ℕ) (r : Result (Vec Row Global) Error) → IfOk r (λ rows. Shown parts_text (Text id ∷ []) old new rows.items)
      → IfOk r (λ rows. (d : List Row) (m : TableEntries) → Keeps old d m → (k : Entry) → m id ≡ Some k → IsNamed k.objects → rows.items ≡ map shown_part k.objects)
  objects_shown id (Err e) h = tt
  objects_shown id (Ok rows) h = λ d m holds. finds_objects old new id rows.items d m (holds clean (shown_open _ _ old new rows.items h)).0 h

-- where no row of `record` is found, none has the id
none_there : (old new : State) (id : List ℕ) (rows : List Row) → Shown find_text (Text id ∷ []) old new rows → rows ≡ [] → LacksId id old.now
none_there old new id rows h none is row has key =
    let read = reads_as find_text (Text id ∷ []) old new store_schema is (Select (record { lets = []; body = find_query }) (codes "form" ∷ codes "root" ∷ [])) find_is find_plain find_unlisted rows h in
    let there = shown_complete 1 by_first (col 1 2 ∷ col 1 3 ∷ []) [] (overlay old.now.trees []) (Text id ∷ []) rows (read.answer Null) row has (row_by_id row id key) in
    absurd (subst (λ l. Has l (column row 2 ∷ column row 3 ∷ [])) none there)

pub none_found : (old new : State) (id : List ℕ) (r : Result (Vec Row Global) Error) → IfOk r (λ rows. Shown find_text (Text id ∷ []) old new rows.items)
    → IfOk r (λ rows. rows.items ≡ [] → LacksId id old.now)
none_found old new id (Err e) h = tt
none_found old new id (Ok rows) h = none_there old new id rows.items h

-- ---- the first row

pub no_first : (rows : List Row) → None ≡ slice_get rows 0 → rows ≡ []
no_first [] none = refl
no_first (row ∷ rows) none = absurd cc

pub none_first : (rows : List Row) (o : Option Head) → None ≡ slice_get rows 0 → ShowsHead rows o → None ≡ o
none_first [] o none h = sym h
none_first (row ∷ rows) o none h = absurd cc

pub some_first : (rows : List Row) (o : Option Head) (row : Row) → Some row ≡ slice_get rows 0 → ShowsHead rows o → (h : Head) × (o ≡ Some h) × (row ≡ shown_head h) × IsTextOfHead h
some_first [] o row some h = absurd cc
some_first (r ∷ rows) o row some h = let same : row ≡ r = cc in (h.0, h.1, same ∙ h.2, h.3)

abbrev head_in : Row → Head
head_in row = record { form = bytes (column row 0); root = bytes (column row 1) }

-- the head that is read of a row is the one that it shows
pub same_head : (row : Row) (read h : Head) → front_two row ≡ shown_head read → row ≡ shown_head h → read ≡ h
same_head row read h seen is = sym (ap head_in seen) ∙ ap head_in is

-- the head is that of a record
pub head_known : (o : Option Entry) (h : Head) → Some h ≡ head_of o → (k : Entry) × (o ≡ Some k) × (h.form ≡ k.form) × (h.root ≡ k.root)
head_known None h is = absurd cc
head_known (Some k) h is =
    let same : h ≡ record { form = k.form; root = k.root } = one_of h (record { form = k.form; root = k.root }) is in
    (k, refl, ap (λ (x : Head). x.form) same, ap (λ (x : Head). x.root) same)
  where
    one_of : (a b : Head) → Some a ≡ Some b → a ≡ b
    one_of a b e = cc

pub head_none : (o : Option Entry) → None ≡ head_of o → None ≡ o
head_none None is = refl
head_none (Some k) is = absurd cc

-- and with it there is a record
pub some_shown : (rows : List Row) (o : Option Entry) → 0 < length rows → ShowsHead rows (head_of o) → o ≡ None → ⊥
some_shown [] o more shows none = omega (arith, more)
some_shown (row ∷ rows) o more shows none = let wrong : head_of None ≡ Some shows.0 = subst (λ e. head_of e ≡ Some shows.0) none shows.1 in cc

pub none_shown : (rows : List Row) (o : Option Entry) (k : Entry) → length rows ≡ 0 → ShowsHead rows (head_of o) → o ≡ Some k → ⊥
none_shown [] o k empty none has = let wrong : head_of (Some k) ≡ None = subst (λ e. head_of e ≡ None) has none in cc
none_shown (row ∷ rows) o k empty shows has = omega (arith, empty)

-- ---- the objects that rows show

abbrev pub thing_in : Row → List ℕ × ObjectTexts
thing_in row = (bytes (column row 0), record { kind = bytes (column row 1); fields = bytes (column row 2) })

pub same_kept : (k : Entry) (form root : List ℕ) (os : AllTexts) → form ≡ k.form → root ≡ k.root → os ≡ k.objects → record { form = form; root = root; objects = os } ≡ k
same_kept k form root os p q r = λ i. record { form = p i; root = q i; objects = r i }

-- what is known of a value is known in other words
pub more_on_ok : {X E : Type 0} (P Q : X → Type 0) (r : Result X E) → ((x : X) → P x → Q x) → IfOk r P → IfOk r Q
more_on_ok P Q (Ok x) h known = h x known
more_on_ok P Q (Err e) h known = tt

-- ---- what is kept is text

text_there : (db : Trees) (m : ObjectKey → Option ObjectTexts) (id : List ℕ) → HasRows part_row IsTextPart (db 3) m → (o : List ℕ × ObjectTexts) → m (id, o.0) ≡ Some o.1 → IsTextObject o
text_there db m id s o has =
    let there = s.complete (id, o.0) o.1 has in
    let it = s.sound (part_row there.0 (id, o.0) o.1) there.1 in
    let key : (id, o.0) ≡ it.key = parts.keyed there.0 it.number (id, o.0) it.key o.1 it.value it.is in
    let value : o.1 ≡ it.value = parts.valued there.0 it.number (id, o.0) it.key o.1 it.value it.is in
    let good = subst (λ (p : ObjectTexts). IsTextPart it.key p) (sym value) it.good in
    let name : o.0 ≡ it.key.1 = ap (λ (at : ObjectKey). at.1) key in
    (subst IsUtf8 (sym name) good.1, good.2, good.3)

all_text : (os all : AllTexts) → ((o : List ℕ × ObjectTexts) → Has os o → IsTextObject o) → AllByRecursion IsTextObject os
all_text [] all h = tt
all_text (o ∷ os) all h = (h o (inl refl), all_text os all (λ x there. h x (inr there)))

-- the objects of a record that a database keeps
pub texts_kept : (db : Database) (d : List Row) (m : TableEntries) (id : List ℕ) (k : Entry) → TablesStand db d m → m id ≡ Some k → IsNamed k.objects → AllByRecursion IsTextObject k.objects
texts_kept db d m id k stands known named =
    all_text k.objects k.objects (λ o h. text_there db.trees (λ at. object_texts at.1 (m at.0)) id stands.parts o (ap (object_texts o.0) known ∙ has_part k.objects named o h))

-- ---- why the queries are refused

find_accepted : (id : List ℕ) → accepts_program store_schema [] find_query (Text id ∷ []) ≡ true
unfolding everything
find_accepted id = refl

parts_accepted : (id : List ℕ) → accepts_program store_schema [] parts_query (Text id ∷ []) ≡ true
unfolding everything
parts_accepted id = refl

module _ (s : State) (has : s.now.schema ≡ store_schema) (none : s.step_limit ≡ None) (id : List ℕ) (e : Error) where
  pub find_never : RefusesToRead s.step_limit (Select (record { lets = []; body = find_query }) (codes "form" ∷ codes "root" ∷ [])) s.now (Text id ∷ []) e → ⊥
  find_never (inl h) = let wrong = subst (λ sc. accepts_program sc [] find_query (Text id ∷ []) ≡ false) has h.1 in cc (wrong, find_accepted id)
  find_never (inr (inl h)) = no_sum (s.now.trees 1) h.1
  find_never (inr (inr h)) = never_steps s.step_limit none h.1

  parts_never : RefusesToRead s.step_limit (Select (record { lets = []; body = parts_query }) (codes "name" ∷ codes "kind" ∷ codes "fields" ∷ [])) s.now (Text id ∷ []) e → ⊥
  parts_never (inl h) = let wrong = subst (λ sc. accepts_program sc [] parts_query (Text id ∷ []) ≡ false) has h.1 in cc (wrong, parts_accepted id)
  parts_never (inr (inl h)) = no_sum (s.now.trees 3) h.1
  parts_never (inr (inr h)) = never_steps s.step_limit none h.1

module _ (old new : State) (clean : HasCleanDisk old) (none : old.step_limit ≡ None) (id : List ℕ) where
  pub find_cause : (r : Result (Vec Row Global) Error) → IfErr r (FailsToQuery find_text (Text id ∷ []) old new) → IfErr r (λ e. (d : List Row) (m : TableEntries) → Keeps old d m → IsExcused old new e)
  find_cause (Ok rows) h = tt
  find_cause (Err e) h = λ d m holds refused. elim (cases_Bool old.is_open) [
    | inl live ↦
        let has = (holds clean live).0.schema in
        query_cause find_text (Text id ∷ []) old new store_schema has find_plain find_whole (Select (record { lets = []; body = find_query }) (codes "form" ∷ codes "root" ∷ [])) find_is find_unlisted (find_never old has none id) e h refused
    | inr shut ↦ inr shut
  ]

  pub parts_cause : (r : Result (Vec Row Global) Error) → IfErr r (FailsToQuery parts_text (Text id ∷ []) old new) → IfErr r (λ e. (d : List Row) (m : TableEntries) → Keeps old d m → IsExcused old new e)
  parts_cause (Ok rows) h = tt
  parts_cause (Err e) h = λ d m holds refused. elim (cases_Bool old.is_open) [
    | inl live ↦
        let has = (holds clean live).0.schema in
        query_cause parts_text (Text id ∷ []) old new store_schema has parts_plain parts_whole (Select (record { lets = []; body = parts_query }) (codes "name" ∷ codes "kind" ∷ codes "fields" ∷ [])) parts_is parts_unlisted (parts_never old has none id) e h refused
    | inr shut ↦ inr shut
  ]
