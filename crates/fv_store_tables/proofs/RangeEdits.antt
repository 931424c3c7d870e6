-- What the UPDATE of a range makes of the rows, and of the map that they spell.
use Rattle.std.proofs.Common.{◌≡◌, ◌≢◌, inl, inr, ℕ, ℤ, true, false, List, [], ◌∷◌, map, Option, Some, None, Ok, Err, Result, OnOk, refl, sym, ap, subst, subst₂, ◌∙◌}
use Rattle.std.proofs.lemmas.Bool.{false_from_ne_true, true≢false}
use Rattle.sqlite.specs.declared.types.Value.TheVariants.{Null, Int}
use Rattle.sqlite.specs.declared.error.Error.{Error}
use Rattle.sqlite.specs.Order.{Row}
use Rattle.sqlite.specs.Command.TheVariants.{Update}
use Rattle.sqlite.specs.Edit.{Edit, id_in, put_all, without_all, are_fresh, is_taken, taken_by}
use Rattle.sqlite.specs.Does.{Tally, Does}
use Rattle.sqlite.specs.Rows.{Written}
use Rattle.sqlite.specs.Rows.{Updates as Runs}
use Rattle.sqlite.specs.Tree.{Trees, IsAscending, IsTable, rowid, has_rowid, put_row}
use Rattle.sqlite.specs.Listing.{understood}
use Rattle.sqlite.specs.Effect.{Database}
use Rattle.sqlite.specs.State.{State, mode_of, Executes, ExecutesInside}
use Rattle.sqlite.proofs.Callers.{statement_of, runs_as, one_step}
use Rattle.sqlite_schema.specs.declared.schema.Keys.TheVariants.{Enforced}
use Rattle.sqlite_rules.specs.Action.{Writes}
use Rattle.sqlite_rules.specs.Lists.{Has}
use Rattle.sqlite_rules.proofs.ListLemmas.{all_has, some_has}
use Rattle.sqlite_rules.proofs.ProbeLemmas.{has_mapped, mapped_has}
use Rattle.sqlite_rules.proofs.TableLemmas.{put_has, put_all_has, put_all_keeps, put_all_adds}
use Rattle.sqlite_trees.proofs.TreeLemmas.{IsTable-put_row}
use Rattle.fv_store_tables.specs.Tables.{store_schema, kept_object}
use Rattle.fv_store_tables.specs.Rows.{IsRowOf, HasRows}
use Rattle.fv_store_tables.specs.Stands.{ObjectTexts, ObjectKey, Maps, NumberedThing, SpellsTables, IsTextHead, IsTextPart, head_row, part_row, same_place}
use Rattle.fv_store_tables.specs.Causes.{HasRoom, HasRooms}
use Rattle.fv_store_tables.specs.Changes.{NamedTexts, AllTexts, AreApart, all_added}
use Rattle.fv_store_tables.specs.Steps.{Advances, AreRowsOf, ArePartsOf}
use Rattle.fv_store_tables.specs.Updating.{IsRange, UpdatesRange, range_values, places_of, things_of, under_rowids}
use Rattle.fv_store_tables.proofs.Inserts.{at_trees, in_place, task_of, zero_is_not_three, one_is_not_three}
use Rattle.fv_store_tables.proofs.Layouts.{parts}
use Rattle.fv_store_tables.proofs.Objects.{heads_added}
use Rattle.fv_store_tables.proofs.RangePlaces.{object_of, placed}
use Rattle.fv_store_tables.proofs.RangeTexts.{range_is, range_plain, range_query, range_text}
use Rattle.fv_store_tables.proofs.Ranges.{added_is, edit_shown, old_row, order, reached, row_for}
use Rattle.fv_store_tables.proofs.Removes.{went, same_value}
use Rattle.fv_store_tables.proofs.Rooms.{room_kept}
use Rattle.fv_store_tables.proofs.RowEdits.{has_itself, left_apart, left_from, left_has, numbers_apart, rowid_is, some_same}
use Rattle.fv_store_tables.proofs.Runs.{AreTexts, quiet}
use Rattle.fv_store_tables.proofs.Updates.{edit_by, exchange}

put_table : (news rows : List Row) → IsTable rows → IsTable (put_all rows news)
put_table [] rows up = up
put_table (x ∷ news) rows up = put_table news (put_row x rows) (IsTable-put_row x rows up)

module _ (id : List ℕ) where
  other_number : (y z : NumberedThing) → Int y.0 ≢ Int z.0 → has_rowid z.0 (row_for id y) ≡ false
  other_number y z apart = false_from_ne_true _ (λ same. apart (ap Int (sym (rowid_is z.0 y.0 (row_for id y) refl same))))

  fresh_from : (ys : List NumberedThing) (rows : List Row) → IsAscending (λ (y z : NumberedThing). Int y.0 ≢ Int z.0) ys
      → ((row : Row) → Has rows row → (z : NumberedThing) → Has ys z → has_rowid z.0 row ≡ false) → are_fresh rows (map (row_for id) ys) ≡ true
  fresh_from [] rows differ free = refl
  fresh_from (y ∷ ys) rows differ free =
      let untaken : is_taken rows (row_for id y) ≡ false = false_from_ne_true _ (λ taken. let it = some_has (has_rowid y.0) rows taken in true≢false (sym it.2 ∙ free it.0 it.1 y (inl refl))) in
      let rest = fresh_from ys (put_row (row_for id y) rows) differ.1 (λ row h z among. elim (put_has (row_for id y) rows row h) [
        | inl is ↦ subst (λ (r : Row). has_rowid z.0 r ≡ false) (sym is) (other_number y z (all_has (λ (x : NumberedThing). Int y.0 ≢ Int x.0) ys z differ.0 among))
        | inr was ↦ free row was z (inr among)
      ]) in
      rw untaken rest

module _ (db : Trees) (id : List ℕ) (rs : List NumberedThing) (os : AllTexts) (range : IsRange rs os) (t : Maps) (s : HasRows part_row IsTextPart (db 3) t.parts)
    (are : AreRowsOf id rs (at_trees db)) (all : ArePartsOf id (things_of rs) t) (apart : AreApart os) (texts : AreTexts id os)
    (zs : List NumberedThing) (only : (z : NumberedThing) → Has zs z → Has (under_rowids rs os) z) (each : (z : NumberedThing) → Has (under_rowids rs os) z → Has zs z)
    (differ : IsAscending (λ (y z : NumberedThing). Int y.0 ≢ Int z.0) zs) where
  abbrev pub gone : List ℤ
  gone = map (λ (z : NumberedThing). z.0) zs

  abbrev pub news : List Row
  news = map (row_for id) zs

  abbrev bare : List Row
  bare = without_all (db 3) gone

  abbrev left : List Row
  left = put_all bare news

  -- the row that was there
  old : (z : NumberedThing) → Has (under_rowids rs os) z → (p : ObjectTexts) × Has (db 3) (part_row z.0 (id, z.1.0) p)
  old = old_row db id rs os range t s are all

  -- a row that stays has none of the rowids
  clear : (row : Row) → Has bare row → (z : NumberedThing) → Has zs z → has_rowid z.0 row ≡ false
  clear row h z among = (left_from gone (db 3) row h).1 z.0 (mapped_has (λ (x : NumberedThing). x.0) zs z among)

  pub fresh : are_fresh bare news ≡ true
  fresh = fresh_from id zs bare differ clear

  -- each row has the rowid of the one of its key that was there
  was : (n : ℤ) (at : ObjectKey) (q : ObjectTexts) → Has left (part_row n at q) → (p : ObjectTexts) × Has (db 3) (part_row n at p)
  was n at q h = elim (put_all_has news bare (part_row n at q) h) [
    | inl new ↦
        let z = has_mapped (row_for id) zs (part_row n at q) new in
        let before = old z.0 (only z.0 z.1) in
        let number : n ≡ z.0.0 = ap (λ (r : Row). id_in (rowid r)) z.2 in
        let key = parts.keyed n z.0.0 at (id, z.0.1.0) q z.0.1.1 z.2 in
        (before.0, subst₂ (λ (i : ℤ) (k : ObjectKey). Has (db 3) (part_row i k before.0)) (sym number) (sym key) before.1)
    | inr stays ↦ (q, (left_from gone (db 3) (part_row n at q) stays).0)
  ]

  sound : (row : Row) → Has left row → IsRowOf part_row IsTextPart (all_added id os t).parts row
  sound row h = elim (put_all_has news bare row h) [
    | inl new ↦
        let z = has_mapped (row_for id) zs row new in
        let among = object_of rs os z.0 (only z.0 z.1) in
        record {
          number = z.0.0;
          key = (id, z.0.1.0);
          value = z.0.1.1;
          is = z.2;
          known = added_is id os t apart z.0.1 among;
          good = all_has (λ (o : NamedTexts). IsTextPart (id, o.0) o.1) os z.0.1 texts among;
        }
    | inr stays ↦
        let from = left_from gone (db 3) row stays in
        let it = s.sound row from.0 in
        elim (reached id os t it.key) [
          | inl found ↦
              let z = placed range.follow.0 rs os range.follow.1 found.0 found.1 in
              let before = old (z.0, found.0) z.1 in
              let there : Has (db 3) (part_row it.number (id, found.0.0) it.value) = subst (Has (db 3)) (it.is ∙ ap (λ (k : ObjectKey). part_row it.number k it.value) found.2) from.0 in
              let number : z.0 ≡ it.number = s.once z.0 it.number (id, found.0.0) before.0 it.value before.1 there in
              absurd (true≢false (sym (has_itself z.0 row (ap rowid it.is ∙ ap Int (sym number))) ∙ clear row stays (z.0, found.0) (each (z.0, found.0) z.1)))
          | inr other ↦ record { number = it.number; key = it.key; value = it.value; is = it.is; known = other.1 ∙ it.known; good = it.good }
        ]
  ]

  complete : (k : ObjectKey) (v : ObjectTexts) → (all_added id os t).parts k ≡ Some v → (n : ℤ) × Has left (part_row n k v)
  complete k v is = elim (reached id os t k) [
    | inl found ↦
        let z = placed range.follow.0 rs os range.follow.1 found.0 found.1 in
        let value : found.0.1 ≡ v = some_same found.0.1 v (sym (added_is id os t apart found.0 found.1) ∙ ap (all_added id os t).parts (sym found.2) ∙ is) in
        let new : Has left (row_for id (z.0, found.0)) = put_all_adds news bare (row_for id (z.0, found.0)) fresh (mapped_has (row_for id) zs (z.0, found.0) (each (z.0, found.0) z.1)) in
        (z.0, subst₂ (λ (l : ObjectKey) (w : ObjectTexts). Has left (part_row z.0 l w)) (sym found.2) value new)
    | inr other ↦
        let there = s.complete k v (sym other.1 ∙ is) in
        let row = part_row there.0 k v in (
          there.0,
          put_all_keeps news bare row fresh (left_has gone (db 3) row there.1 (λ i among. false_from_ne_true _ (λ same.
              let z = has_mapped (λ (x : NumberedThing). x.0) zs i among in
              let before = old z.0 (only z.0 z.1) in
              let number : i ≡ there.0 = rowid_is i there.0 row refl same in
              let one = numbers_apart part_row IsTextPart same_place parts (db 3) t.parts s there.0 z.0.0 k (id, z.0.1.0) v before.0 there.1 before.1 (sym number ∙ z.2) in
              other.0 z.0.1 (object_of rs os z.0 (only z.0 z.1)) (parts.keyed there.0 z.0.0 k (id, z.0.1.0) v before.0 one)))),
        )
  ]

  pub spells_range : HasRows part_row IsTextPart left (all_added id os t).parts
  spells_range = record {
    apart = put_table news bare (left_apart gone (db 3) s.apart);
    sound = sound;
    complete = complete;
    once = λ i n k v w a b. let one = was i k v a in let two = was n k w b in s.once i n k one.0 two.0 one.1 two.1;
  }

  -- a new row has the rowid of one that was there
  pub in_room : (row : Row) → Has news row → (before : Row) × Has (db 3) before × (rowid row ≡ rowid before)
  in_room row h =
      let z = has_mapped (row_for id) zs row h in
      let before = old z.0 (only z.0 z.1) in
      (part_row z.0.0 (id, z.0.1.0) before.0, before.1, ap rowid z.2)

-- ---- the statement

module _ (limit : Option ℕ) (db : Trees) (id : List ℕ) (rs : List NumberedThing) (os : AllTexts) (range : IsRange rs os) (d : List Row) (t : Maps) (spelled : SpellsTables (at_trees db) d t)
    (are : AreRowsOf id rs (at_trees db)) (all : ArePartsOf id (things_of rs) t) (apart : AreApart os) (texts : AreTexts id os) where
  abbrev params : Row
  params = range_values id (places_of rs os)

  pub range_writes : (w : Written) → Runs (task_of limit kept_object params) (record { lets = []; body = range_query }) params db (Ok w)
      → SpellsTables (at_trees w.trees) d (all_added id os t) × ((n : ℕ) → HasRooms n (at_trees db) → HasRooms n (at_trees w.trees))
  range_writes w h =
      let given = went h in
      let written = went given.2 in
      let made = same_value written.2 in
      let o = order db id rs os range t spelled.parts are all given.0 (given.1.answer Null) in
      let ids = map (λ (z : NumberedThing). z.0) o.zs in
      let rows = map (row_for id) o.zs in
      let edit = ap (edit_by db) o.shown ∙ edit_shown id db o.zs in
      let applied = one_step store_schema Enforced db written.0 (exchange ids rows) (quiet (taken_by db (exchange ids rows)) rows) (subst (λ (e : Edit). Writes store_schema Enforced db e (Ok written.0)) edit written.1) in
      let at : (i : ℕ) → w.trees i ≡ written.0 i = λ i. ap (λ (x : Written). x.trees i) made in
      let one = at 1 ∙ applied.tables.1.0 one_is_not_three in
      let three = at 3 ∙ applied.rows in (
        record {
          schema = refl;
          about = at 0 ∙ applied.tables.0 zero_is_not_three ∙ spelled.about;
          heads = subst (λ m. HasRows head_row IsTextHead (w.trees 1) m) (sym (heads_added id os t)) (subst (λ xs. HasRows head_row IsTextHead xs t.heads) (sym one) spelled.heads);
          parts = subst (λ xs. HasRows part_row IsTextPart xs (all_added id os t).parts) (sym three) (spells_range db id rs os range t spelled.parts are all apart texts o.zs o.only o.each o.apart);
        },
        λ n room. (
          subst (HasRoom n) (sym one) room.0,
          room_kept (db 3) (w.trees 3) ids rows (in_room db id rs os range t spelled.parts are all apart texts o.zs o.only o.each o.apart) three n room.1,
        ),
      )

range_updates : (old new : State) (id : List ℕ) (rs : List NumberedThing) (os : AllTexts) (count : ℕ) → IsRange rs os → AreTexts id os → Executes range_text (range_values id (places_of rs os)) old new (Ok count)
    → UpdatesRange id rs os old.now new.now
range_updates old new id rs os count range texts h d t spelled are all apart =
    let params = range_values id (places_of rs os) in
    let command = Update 2 (record { lets = []; body = range_query }) in
    let w = runs_as range_text params old new store_schema spelled.schema command range_is range_plain count h in
    let text = statement_of range_text (understood store_schema range_text) in
    let done = went (subst (λ s. Does old.step_limit (mode_of old) params (record old.now { schema = s }) text None command (Ok (w.tally, new.now))) spelled.schema w.changed) in
    let now : new.now ≡ at_trees done.0.trees = ap (λ (p : Tally × Database). p.1) (same_value (went (went done.2).2).2) in
    let wrote = range_writes old.step_limit old.now.trees id rs os range d t (in_place old.now d t spelled) are all apart texts done.0 done.1 in
    subst (λ (b : Database). SpellsTables b d (all_added id os t) × ((n : ℕ) → HasRooms n old.now → HasRooms n b)) (sym now) wrote

pub range_step : (old new : State) (id : List ℕ) (rs : List NumberedThing) (os : AllTexts) → IsRange rs os → AreTexts id os → (r : Result ℕ Error) → ExecutesInside 0 range_text (range_values id (places_of rs os)) old new r
    → OnOk r (Advances old new (UpdatesRange id rs os))
range_step old new id rs os range texts (Err e) h = tt
range_step old new id rs os range texts (Ok count) h = record { was_open = λ _. h.1.was_open; mode = h.1.mode; committed = h.1.committed_is; change = range_updates old new id rs os count range texts h.0 }
