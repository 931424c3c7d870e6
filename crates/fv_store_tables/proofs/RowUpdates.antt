-- What the UPDATE of an object's row by its rowid does, and why it is refused: no rule does.
use Rattle.std.proofs.Common.{◌≡◌, ◌⊎◌, ◌&&◌, inl, inr, ℕ, ℤ, true, false, List, [], ◌∷◌, length, bytes_eq, unwrap_or, Option, Some, None, Ok, Err, Result, IfOk, IfErr, refl, sym, ap, subst, subst₂, ◌∙◌}
use Rattle.std.specs.List.{list_all}
use Rattle.std.specs.Ordering.{is_eq, int_cmp}
use Rattle.std.proofs.lemmas.Bool.{and_parts, and_from, cases_Bool, false_from_ne_true}
use Rattle.sqlite.specs.declared.types.Value.TheVariants.{Null, Int, Text}
use Rattle.sqlite.specs.declared.error.Error.{Error}
use Rattle.sqlite.specs.Collation.TheVariants.{Binary}
use Rattle.sqlite.specs.Ops.{binary, is_true, from_truth}
use Rattle.sqlite.specs.Order.{Row}
use Rattle.sqlite.specs.Command.TheVariants.{Update}
use Rattle.sqlite.specs.Edit.{Edit, id_in, taken_by}
use Rattle.sqlite.specs.Query.{IsAnswer}
use Rattle.sqlite.specs.Program.{overlay}
use Rattle.sqlite.specs.Does.{Tally, Does}
use Rattle.sqlite.specs.Rows.{Written, Edited, Queried}
use Rattle.sqlite.specs.Rows.{Updates as Runs}
use Rattle.sqlite.specs.Term.{holds}
use Rattle.sqlite.specs.Tree.{Trees, rowid}
use Rattle.sqlite.specs.Listing.{understood}
use Rattle.sqlite.specs.Effect.{Database}
use Rattle.sqlite.specs.State.{State, mode_of, Executes, ExecutesInside}
use Rattle.sqlite.proofs.Callers.{statement_of, runs_as}
use Rattle.sqlite_sql.specs.declared.ops.BinaryOp.TheVariants.{Compare}
use Rattle.sqlite_sql.specs.declared.ops.CompareOp.TheVariants.{Eq}
use Rattle.sqlite_value.proofs.OrderLemmas.{value_cmp-Int}
use Rattle.sqlite_schema.specs.declared.schema.Keys.TheVariants.{Enforced}
use Rattle.sqlite_rules.specs.Lists.{Has}
use Rattle.sqlite_typing.specs.Types.{accepts_program}
use Rattle.sqlite_tied.specs.Compute.{everything}
use Rattle.fv_store_tables.specs.Tables.{store_schema, kept_object}
use Rattle.fv_store_tables.specs.Rows.{IsRowOf, HasRows}
use Rattle.fv_store_tables.specs.Stands.{ObjectTexts, ObjectKey, Maps, same_place, part_row, IsTextPart, SpellsTables, IsOwned, added}
use Rattle.fv_store_tables.specs.Causes.{HasRoom, HasRooms, IsShortPart, IsExcused}
use Rattle.fv_store_tables.specs.Steps.{Advances, HasPart, LacksRow, UpdatesRow}
use Rattle.fv_store_tables.proofs.Texts.{row_text, row_terms, row_query, row_is, row_plain, row_whole, by_row}
use Rattle.fv_store_tables.proofs.RowEdits.{numbers_apart, same_int, equal_ints, value_at}
use Rattle.fv_store_tables.proofs.Rooms.{rowid_fits}
use Rattle.fv_store_tables.proofs.Layouts.{parts}
use Rattle.fv_store_tables.proofs.OneTable.{equal_texts, truth_of, and_true, none_shown, one_shown}
use Rattle.fv_store_tables.proofs.Cascade.{works_put_one}
use Rattle.fv_store_tables.proofs.Inserts.{at_trees, in_place, task_of, part_params}
use Rattle.fv_store_tables.proofs.Removes.{went, same_value}
use Rattle.fv_store_tables.proofs.Updates.{cast_int, exchange, edit_by}
use Rattle.fv_store_tables.proofs.InPlace.{no_parts, same_rooms, set_exchanged, none_exchanged, part_exchanged, room_exchanged}
use Rattle.fv_store_tables.proofs.Refusals.{no_sum, never_steps, run_cause}
use Rattle.fv_store_tables.proofs.RemoveCauses.{parts_allowed}
use Rattle.fv_store_tables.proofs.Writes.{never_ok, never_false, never_edited, never_concluded, part_fits, set_allowed, heads_apart, parts_apart, owned_added}

abbrev pub row_params : ℤ → ObjectKey → ObjectTexts → Row
row_params n at it = Int n ∷ part_params at it

equal_numbers : (i n : ℤ) → is_true (binary (Compare Eq Binary) (Int i) (Int n)) ≡ is_eq (int_cmp i n)
unfolding binary
equal_numbers i n = ap (λ o. is_true (from_truth (Some (is_eq o)))) (value_cmp-Int i n) ∙ truth_of _

part_by_row : (m : ObjectKey → Option ObjectTexts) (n : ℤ) (at : ObjectKey) (more row : Row) (it : IsRowOf part_row IsTextPart m row)
    → list_all (holds ((Int n ∷ Text at.0 ∷ Text at.1 ∷ more) ∷ row ∷ [])) by_row ≡ (is_eq (int_cmp it.number n) && same_place it.key at)
part_by_row m n at more row it = rw (it.is, equal_numbers it.number n, equal_texts it.key.0 at.0, equal_texts it.key.1 at.1, and_true (bytes_eq it.key.1 at.1)) refl

module _ (db : Trees) (m : ObjectKey → Option ObjectTexts) (n : ℤ) (at : ObjectKey) (it : ObjectTexts) (rows : List Row) (s : HasRows part_row IsTextPart (db 3) m) (a : IsAnswer row_query (overlay db []) (row_params n at it) rows) where
  abbrev more : Row
  more = Text it.kind ∷ Text it.fields ∷ []

  -- a row that passes has the rowid and is of the object
  passed : (row : Row) → Has (db 3) row → list_all (holds (row_params n at it ∷ row ∷ [])) by_row ≡ true → (p : ObjectTexts) × (row ≡ part_row n at p)
  passed row there passes =
      let is = s.sound row there in
      let both = and_parts _ _ (sym (part_by_row m n at more row is) ∙ passes) in
      let number : is.number ≡ n = sym (equal_ints n is.number both.0) in
      let key : is.key ≡ at = (parts.decides is.key at).0 both.1 in
      (is.value, is.is ∙ ap (λ i. part_row i is.key is.value) number ∙ ap (λ k. part_row n k is.value) key)

  pub edits_no_row : ((p : ObjectTexts) → Has (db 3) (part_row n at p) → ⊥) → edit_by db rows ≡ exchange [] []
  edits_no_row none =
      ap (edit_by db) (none_shown 3 by_row row_terms [] (overlay db []) (row_params n at it) rows a (λ row there.
      false_from_ne_true _ (λ passes. let r = passed row there passes in none r.0 (subst (Has (db 3)) r.1 there))))

  pub edits_row : (p : ObjectTexts) → Has (db 3) (part_row n at p) → edit_by db rows ≡ exchange (n ∷ []) (part_row n at it ∷ [])
  edits_row p there =
      let row = part_row n at p in
      let is = s.sound row there in
      let number : n ≡ is.number = ap (λ (r : Row). id_in (rowid r)) is.is in
      let key = parts.keyed n is.number at is.key p is.value is.is in
      let passes = part_by_row m n at more row is ∙ and_from _ _ (subst (λ i. is_eq (int_cmp i n) ≡ true) number (same_int n)) ((parts.decides is.key at).1 (sym key)) in
      let shown = one_shown 3 by_row row_terms [] (overlay db []) (row_params n at it) rows a s.apart row there passes
      (λ other has passed_too.
      let r = passed other has passed_too in
      r.1 ∙ numbers_apart part_row IsTextPart same_place parts (db 3) m s n n at at r.0 p (subst (Has (db 3)) r.1 has) there refl) in
      ap (edit_by db) shown ∙ ap (λ v. exchange (n ∷ []) ((v ∷ Text at.0 ∷ Text at.1 ∷ more) ∷ [])) (cast_int n)

-- the row is there, or not
found_or_not : (rows : List Row) (m : ObjectKey → Option ObjectTexts) → HasRows part_row IsTextPart rows m → (n : ℤ) (at : ObjectKey) → ((p : ObjectTexts) → Has rows (part_row n at p) → ⊥) ⊎ ((p : ObjectTexts) × Has rows (part_row n at p))
found_or_not rows m s n at = go (m at) refl
  where
    go : (o : Option ObjectTexts) → m at ≡ o → ((p : ObjectTexts) → Has rows (part_row n at p) → ⊥) ⊎ ((p : ObjectTexts) × Has rows (part_row n at p))
    go None none = inl (λ p there. absurd (let some = value_at part_row IsTextPart same_place parts rows m s n at p there in let wrong : None ≡ Some p = sym none ∙ some in cc))
    go (Some p) some =
        let there = s.complete at p some in
        elim (cases_Bool (is_eq (int_cmp there.0 n))) [
          | inl same ↦ inr (p, subst (λ i. Has rows (part_row i at p)) (sym (equal_ints n there.0 same)) there.1)
          | inr other ↦ inl (λ q has.
              let number : there.0 ≡ n = s.once there.0 n at p q there.1 has in
              absurd (let wrong : is_eq (int_cmp n n) ≡ false = subst (λ i. is_eq (int_cmp i n) ≡ false) number other in let itself = same_int n in cc (wrong, itself)))
        ]

module _ (limit : Option ℕ) (db : Trees) (n : ℤ) (at : ObjectKey) (it : ObjectTexts) (d : List Row) (t : Maps) (spelled : SpellsTables (at_trees db) d t) (good : IsTextPart at it) where
  row_either : (w : Written) → Runs (task_of limit kept_object (row_params n at it)) (record { lets = []; body = row_query }) (row_params n at it) db (Ok w)
      → ((LacksRow n at (at_trees db) × (length w.rows ≡ 0) × SpellsTables (at_trees w.trees) d t) ⊎ (HasPart at t × (length w.rows ≡ 1) × SpellsTables (at_trees w.trees) d (added at it t)))
      × ((k : ℕ) → HasRooms k (at_trees db) → HasRooms k (at_trees w.trees))
  row_either w h = elim (found_or_not (db 3) t.parts spelled.parts n at) [
    | inl none ↦
        let wrote = set_exchanged limit db row_query (row_params n at it) [] [] no_parts (λ rows a. edits_no_row db t.parts n at it rows spelled.parts a none) w h in
        (inl (none, wrote.3, none_exchanged db w d t spelled wrote.0 wrote.1 wrote.2), same_rooms (at_trees db) (at_trees w.trees) wrote.1 wrote.2)
    | inr found ↦
        let row = part_row n at it in
        let wrote = set_exchanged limit db row_query (row_params n at it) (n ∷ []) (row ∷ []) (works_put_one 3 (taken_by db (exchange (n ∷ []) (row ∷ []))) (row ∷ []) row refl)
        (λ rows a. edits_row db t.parts n at it rows spelled.parts a found.0 found.1) w h in (
          inr ((found.0, value_at part_row IsTextPart same_place parts (db 3) t.parts spelled.parts n at found.0 found.1), wrote.3, part_exchanged db at found.0 it n found.1 good w d t spelled wrote.0 wrote.1 wrote.2),
          room_exchanged db at found.0 it n found.1 good w d t spelled wrote.0 wrote.1 wrote.2,
        )
  ]

row_updates : (old new : State) (n : ℤ) (at : ObjectKey) (it : ObjectTexts) (count : ℕ) → IsTextPart at it → Executes row_text (row_params n at it) old new (Ok count) → UpdatesRow n at it count old.now new.now
row_updates old new n at it count good h d t spelled =
    let params = row_params n at it in
    let command = Update 2 (record { lets = []; body = row_query }) in
    let w = runs_as row_text params old new store_schema spelled.schema command row_is row_plain count h in
    let text = statement_of row_text (understood store_schema row_text) in
    let done = went (subst (λ s. Does old.step_limit (mode_of old) params (record old.now { schema = s }) text None command (Ok (w.tally, new.now))) spelled.schema w.changed) in
    let end = same_value (went (went done.2).2).2 in
    let now : new.now ≡ at_trees done.0.trees = ap (λ (p : Tally × Database). p.1) end in
    let counted : count ≡ length done.0.rows = w.counted ∙ ap (λ (p : Tally × Database). unwrap_or p.0.rows 0) end in
    let wrote = row_either old.step_limit old.now.trees n at it d t (in_place old.now d t spelled) good done.0 done.1 in
    subst₂ (λ (k : ℕ) (b : Database). ((LacksRow n at old.now × (k ≡ 0) × SpellsTables b d t) ⊎ (HasPart at t × (k ≡ 1) × SpellsTables b d (added at it t))) × ((j : ℕ) → HasRooms j old.now → HasRooms j b)) (sym counted) (sym now) wrote

pub row_step : (old new : State) (n : ℤ) (at : ObjectKey) (it : ObjectTexts) (r : Result ℕ Error) → IsTextPart at it → ExecutesInside 0 row_text (row_params n at it) old new r → IfOk r (λ count. Advances old new (UpdatesRow n at it count))
row_step old new n at it (Err e) good h = tt
row_step old new n at it (Ok count) good h = record { was_open = λ _. h.1.was_open; mode = h.1.mode; committed = h.1.committed_is; change = row_updates old new n at it count good h.0 }

-- ---- the cause

row_accepted : (n : ℤ) (id name kind fields : List ℕ) → accepts_program store_schema [] row_query (Int n ∷ Text id ∷ Text name ∷ Text kind ∷ Text fields ∷ []) ≡ true
unfolding everything
row_accepted n id name kind fields = refl

module _ (s : State) (none : s.step_limit ≡ None) (d : List Row) (t : Maps) (spelled : SpellsTables (at_trees s.now.trees) d t) (owned : IsOwned t)
    (n : ℤ) (at : ObjectKey) (p : ObjectTexts) (good : IsTextPart at p) (room : HasRoom 0 (s.now.trees 3)) (short : IsShortPart at p) where
  abbrev db : Trees
  db = s.now.trees

  never_queried : (stop : Option Error) → Queried s.step_limit (at_trees db) (record { lets = []; body = row_query }) (row_params n at p) (Err stop) → ⊥
  never_queried None w = w
  never_queried (Some e) (inl w) = never_false (sym (row_accepted n at.0 at.1 p.kind p.fields) ∙ w.1)
  never_queried (Some e) (inr (inl w)) = no_sum (db 3) w.1
  never_queried (Some e) (inr (inr w)) = never_steps s.step_limit none w.1

  never_exchanged : (rows : List Row) → IsAnswer row_query (overlay db []) (row_params n at p) rows → (stop : Option Error) → Edited store_schema Enforced db (edit_by db rows) (Err stop) → ⊥
  never_exchanged rows answer stop w = elim (found_or_not (db 3) t.parts spelled.parts n at) [
    | inl lacks ↦
        never_edited db (exchange [] []) no_parts (parts_allowed db (heads_apart db d t spelled) (parts_apart db d t spelled) []) (λ row never _. never) stop
        (subst (λ (e : Edit). Edited store_schema Enforced db e (Err stop)) (edits_no_row db t.parts n at p rows spelled.parts answer lacks) w)
    | inr found ↦
        let row = part_row n at p in
        let edit = exchange (n ∷ []) (row ∷ []) in
        never_edited db edit (works_put_one 3 (taken_by db edit) (row ∷ []) row refl) (set_allowed db d t spelled at p found.0 n found.1 good (rowid_fits (db 3) room (part_row n at found.0) found.1)) (part_fits n at p short) stop
        (subst (λ (e : Edit). Edited store_schema Enforced db e (Err stop)) (edits_row db t.parts n at p rows spelled.parts answer found.0 found.1) w)
  ]

  never_put : (sql : List ℕ) (stop : Option Error) → Does s.step_limit (mode_of s) (row_params n at p) (at_trees db) sql None (Update 2 (record { lets = []; body = row_query })) (Err stop) → ⊥
  never_put sql stop (inl (st, inl (st', queried, _), _)) = never_queried st' queried
  never_put sql stop (inl (st, inr (rows, answers, inl (st', edited, _)), _)) = never_exchanged rows (answers.answer Null) st' edited
  never_put sql stop (inl (st, inr (rows, answers, inr (next, edited, wrong)), _)) = never_ok wrong
  never_put sql stop (inr (w, updated, concluded)) = elim (row_either s.step_limit db n at p d t spelled good w updated).0 [
    | inl same ↦ never_concluded s kept_object (row_params n at p) w d t same.2 owned stop concluded
    | inr made ↦ never_concluded s kept_object (row_params n at p) w d (added at p t) made.2 (owned_added at p t owned (owned at made.0.0 made.0.1)) stop concluded
  ]

pub row_cause : (old new : State) → old.step_limit ≡ None → (n : ℤ) (at : ObjectKey) (p : ObjectTexts) → IsTextPart at p → (r : Result ℕ Error) → ExecutesInside 0 row_text (row_params n at p) old new r
    → IfErr r (λ e. (d : List Row) (t : Maps) → SpellsTables old.now d t → IsOwned t → HasRooms 0 old.now → IsShortPart at p → IsExcused old new e)
row_cause old new none n at p good (Ok count) ran = tt
row_cause old new none n at p good (Err e) ran = λ d t spelled owned room short refused.
    let params = row_params n at p in
    let command = Update 2 (record { lets = []; body = row_query }) in
    let text = statement_of row_text (understood store_schema row_text) in
    run_cause row_text params old new store_schema spelled.schema row_plain row_whole command row_is tt
    (λ stop does. never_put old none d t (in_place old.now d t spelled) owned n at p good room.1 short text stop
    (subst (λ sc. Does old.step_limit (mode_of old) params (record old.now { schema = sc }) text None command (Err stop)) spelled.schema does)) e ran refused
