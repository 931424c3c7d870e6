-- What an INSERT of several objects of a record does.
use Rattle.std.proofs.Common.{◌≡◌, ◌==◌, ◌+◌, inl, inr, ℕ, suc, Bool, true, false, length, drop, List, [], ◌∷◌, map, bytes_eq, IsTrue, Option, None, Ok, Err, Result, OnOk, refl, sym, ap, subst, ◌∙◌, arith}
use Rattle.std.specs.List.{AllByRecursion}
use Rattle.sqlite.specs.declared.error.Error.{Error}
use Rattle.sqlite.specs.Order.{Row}
use Rattle.sqlite.specs.Source.TheVariants.{Values}
use Rattle.sqlite.specs.Command.TheVariants.{Insert}
use Rattle.sqlite.specs.Cast.{cast_row}
use Rattle.sqlite.specs.Edit.{Edit, edit_of, taken_by, put_all, are_fresh, numbered, next_rowid, is_taken}
use Rattle.sqlite.specs.Rowids.TheVariants.{Chosen}
use Rattle.sqlite.specs.Rows.{Written, Inserts}
use Rattle.sqlite.specs.Does.{Tally, Does}
use Rattle.sqlite.specs.Tree.{Trees, rowid, put_row}
use Rattle.sqlite.specs.View.{is_int}
use Rattle.sqlite.specs.Listing.{understood}
use Rattle.sqlite.specs.Effect.{Database}
use Rattle.sqlite.specs.State.{State, mode_of, Executes, ExecutesInside}
use Rattle.sqlite.proofs.Callers.{statement_of, runs_as, one_step}
use Rattle.sqlite_schema.specs.declared.schema.Keys.TheVariants.{Enforced}
use Rattle.sqlite_schema.specs.Names.{same_name}
use Rattle.sqlite_value.specs.Keys.{joined}
use Rattle.sqlite_rules.specs.Action.{works}
use Rattle.sqlite_rules.specs.Lists.{Has}
use Rattle.sqlite_rules.proofs.ListLemmas.{all_from}
use Rattle.sqlite_rules.proofs.PlaceLemmas.{next_is_free}
use Rattle.fv_store_tables.specs.Tables.{store_schema, kept_object}
use Rattle.fv_store_tables.specs.Rows.{HasRows}
use Rattle.fv_store_tables.specs.Stands.{ObjectTexts, ObjectKey, Maps, SpellsTables, same_place, head_row, part_row, IsTextHead, IsTextPart, added}
use Rattle.fv_store_tables.specs.Causes.{HasRoom}
use Rattle.fv_store_tables.specs.Changes.{AllTexts, has_name, all_added}
use Rattle.fv_store_tables.specs.Inserting.{IsRun, AreNew, insert_of, row_values}
use Rattle.fv_store_tables.specs.Steps.{Advances, Makes}
use Rattle.fv_store_tables.proofs.RunTexts.{source, run_terms, RunMeans, runs_mean}
use Rattle.fv_store_tables.proofs.RowEdits.{spells_put}
use Rattle.fv_store_tables.proofs.Rooms.{fewer, room_after}
use Rattle.fv_store_tables.proofs.Layouts.{parts}
use Rattle.fv_store_tables.proofs.Inserts.{at_trees, in_place, task_of, cast_null, zero_is_not_three, one_is_not_three}
use Rattle.fv_store_tables.proofs.Removes.{went, same_value}
use Rattle.fv_store_tables.proofs.Objects.{neither, other_name, heads_added}

-- ---- names apart

pub others_apart : (name : List ℕ) (os : AllTexts) → has_name name os ≡ false → (o : List ℕ × ObjectTexts) → Has os o → bytes_eq o.0 name ≡ false
others_apart name [] none o h = absurd h
others_apart name (x ∷ os) none o (inl is) = subst (λ (e : List ℕ × ObjectTexts). bytes_eq e.0 name ≡ false) (sym is) (neither (bytes_eq x.0 name) (has_name name os) none).0
others_apart name (x ∷ os) none o (inr later) = others_apart name os (neither (bytes_eq x.0 name) (has_name name os) none).1 o later

-- those behind an object are still new once it is there
pub still_new : (id : List ℕ) (o : List ℕ × ObjectTexts) (os : AllTexts) (t : Maps) → AreNew id (o ∷ os) t → AreNew id os (added (id, o.0) o.1 t)
still_new id o os t new = (new.0.1, λ x h. rw (other_name id x.0 o.0 (others_apart o.0 os new.0.0 x h)) (new.1 x (inr h)))

-- ---- the rows

-- the rows that the statement puts in
abbrev pub run_rows : List ℕ → AllTexts → List Row → List Row
run_rows id os rows = numbered Chosen rows (map (source id) os)

-- the first of them
abbrev pub first_row : List ℕ → List ℕ × ObjectTexts → List Row → Row
first_row id o rows = part_row (next_rowid rows) (id, o.0) o.1

abbrev pub AreTexts : List ℕ → AllTexts → Type 0
AreTexts id os = AllByRecursion (λ (o : List ℕ × ObjectTexts). IsTextPart (id, o.0) o.1) os

module _ (id : List ℕ) where
  -- the next rowid is free
  untaken : (rows : List Row) (m : ObjectKey → Option ObjectTexts) → HasRows part_row IsTextPart rows m → (o : List ℕ × ObjectTexts) → is_taken rows (first_row id o rows) ≡ false
  untaken rows m s o =
      next_is_free Chosen rows (drop 1 (first_row id o rows)) s.apart (all_from (λ r. IsTrue (is_int (rowid r))) rows (λ row there. let it = s.sound row there in rw it.is refl))

  -- the rows with the first of them
  one_put : (o : List ℕ × ObjectTexts) (os : AllTexts) (rows : List Row) (t : Maps) → HasRows part_row IsTextPart rows t.parts → AreNew id (o ∷ os) t → IsTextPart (id, o.0) o.1
      → HasRows part_row IsTextPart (put_row (first_row id o rows) rows) (added (id, o.0) o.1 t).parts
  one_put o os rows t s new good =
      spells_put part_row IsTextPart same_place parts rows t.parts s (next_rowid rows) (id, o.0) o.1 (new.1 o (inl refl)) good (rw (untaken rows t.parts s o) refl)

  pub run_fresh : (os : AllTexts) (rows : List Row) (t : Maps) → HasRows part_row IsTextPart rows t.parts → AreNew id os t → AreTexts id os → are_fresh rows (run_rows id os rows) ≡ true
  run_fresh [] rows t s new good = refl
  run_fresh (o ∷ os) rows t s new good =
      let rest = run_fresh os (put_row (first_row id o rows) rows) (added (id, o.0) o.1 t) (one_put o os rows t s new good.0) (still_new id o os t new) good.1 in
      rw (untaken rows t.parts s o) rest

  pub run_put : (os : AllTexts) (rows : List Row) (t : Maps) → HasRows part_row IsTextPart rows t.parts → AreNew id os t → AreTexts id os
      → HasRows part_row IsTextPart (put_all rows (run_rows id os rows)) (all_added id os t).parts
  run_put [] rows t s new good = s
  run_put (o ∷ os) rows t s new good = run_put os (put_row (first_row id o rows) rows) (added (id, o.0) o.1 t) (one_put o os rows t s new good.0) (still_new id o os t new) good.1

  -- each row takes the room of one
  pub run_room : (os : AllTexts) (rows : List Row) (n : ℕ) → HasRoom (n + length os) rows → HasRoom n (put_all rows (run_rows id os rows))
  run_room [] rows n room = fewer n (n + 0) rows (omega arith) room
  run_room (o ∷ os) rows n room =
      let row = first_row id o rows in
      run_room os (put_row row rows) n (room_after rows (put_row row rows) row refl refl (n + length os) (fewer (n + length os + 1) (n + suc (length os)) rows (omega arith) room))

-- ---- the statement

-- nothing refers to `object`, so no edit of it sets anything off
pub quiet : (olds news : List Row) → works store_schema Enforced 0 3 olds news ≡ []
unfolding same_name joined
quiet olds news = go (length news == 0) refl
  where
    go : (b : Bool) → (length news == 0) ≡ b → works store_schema Enforced 0 3 olds news ≡ []
    go true is = rw is refl
    go false is = rw is refl

cast_all : (id : List ℕ) (os : AllTexts) → map (λ s. cast_row kept_object (drop 0 s)) (map (source id) os) ≡ map (source id) os
cast_all id [] = refl
cast_all id (o ∷ os) = rw (cast_null, cast_all id os) refl

-- the rows that are given get rowids
pub made_rows : (db : Trees) (id : List ℕ) (os : AllTexts) (given : List Row) → given ≡ map (source id) os → numbered Chosen (db 3) (map (λ s. cast_row kept_object (drop 0 s)) given) ≡ run_rows id os (db 3)
made_rows db id os given is = ap (λ all. numbered Chosen (db 3) (map (λ s. cast_row kept_object (drop 0 s)) all)) is ∙ ap (numbered Chosen (db 3)) (cast_all id os)

module _ (limit : Option ℕ) (db : Trees) (id : List ℕ) (os : AllTexts) (n : ℕ) (means : RunMeans n id os) (d : List Row) (t : Maps) (spelled : SpellsTables (at_trees db) d t)
    (new : AreNew id os t) (good : AreTexts id os) where
  pub run_writes : (w : Written) → Inserts (task_of limit kept_object (row_values id os)) (Values (run_terms n 1) 5) db (Ok w)
      → SpellsTables (at_trees w.trees) d (all_added id os t) × (w.trees 1 ≡ db 1) × (w.trees 3 ≡ put_all (db 3) (run_rows id os (db 3)))
  run_writes w h =
      let first = went h in
      let written = went (went first.2).2 in
      let counted = went written.2 in
      let trees : w.trees ≡ written.0 = ap (λ (x : Written). x.trees) (same_value counted.2) ∙ same_value counted.1 in
      let edit : Edit = edit_of db kept_object [] Chosen 0 first.0 in
      let made : edit.news ≡ run_rows id os (db 3) = made_rows db id os first.0 (first.1.1 ∙ means.given) in
      let applied = one_step store_schema Enforced db written.0 edit (quiet (taken_by db edit) edit.news) written.1 in
      let rows : written.0 3 ≡ put_all (db 3) (run_rows id os (db 3)) = applied.rows ∙ ap (put_all (db 3)) made in
      let at : (k : ℕ) → w.trees k ≡ written.0 k = λ k. ap (λ (ts : Trees). ts k) trees in
      let all = at 3 ∙ rows in
      let others = at 1 ∙ applied.tables.1.0 one_is_not_three in (
        record {
          schema = refl;
          about = at 0 ∙ applied.tables.0 zero_is_not_three ∙ spelled.about;
          heads = subst (λ m. HasRows head_row IsTextHead (w.trees 1) m) (sym (heads_added id os t)) (subst (λ rs. HasRows head_row IsTextHead rs t.heads) (sym others) spelled.heads);
          parts = subst (λ rs. HasRows part_row IsTextPart rs (all_added id os t).parts) (sym all) (run_put id os (db 3) t spelled.parts new good);
        },
        others,
        all,
      )

module _ (old new : State) (id : List ℕ) (os : AllTexts) (n : ℕ) (means : RunMeans n id os) (count : ℕ) (d : List Row) (t : Maps) (spelled : SpellsTables old.now d t) (are_new : AreNew id os t)
    (good : AreTexts id os) (h : Executes (insert_of n) (row_values id os) old new (Ok count)) where
  runs : SpellsTables new.now d (all_added id os t) × (new.now.trees 1 ≡ old.now.trees 1) × (new.now.trees 3 ≡ put_all (old.now.trees 3) (run_rows id os (old.now.trees 3)))
  runs =
      let params = row_values id os in
      let command = Insert 2 (Values (run_terms n 1) 5) in
      let w = runs_as (insert_of n) params old new store_schema spelled.schema command means.is means.plain count h in
      let text = statement_of (insert_of n) (understood store_schema (insert_of n)) in
      let done = went (subst (λ s. Does old.step_limit (mode_of old) params (record old.now { schema = s }) text None command (Ok (w.tally, new.now))) spelled.schema w.changed) in
      let now : new.now ≡ at_trees done.0.trees = ap (λ (p : Tally × Database). p.1) (same_value (went (went done.2).2).2) in
      let wrote = run_writes old.step_limit old.now.trees id os n means d t (in_place old.now d t spelled) are_new good done.0 done.1 in
      subst (λ b. SpellsTables b d (all_added id os t) × (b.trees 1 ≡ old.now.trees 1) × (b.trees 3 ≡ put_all (old.now.trees 3) (run_rows id os (old.now.trees 3)))) (sym now) wrote

pub run_step : (old new : State) (id : List ℕ) (os : AllTexts) → IsRun (length os) → AreTexts id os → (r : Result ℕ Error) → ExecutesInside 0 (insert_of (length os)) (row_values id os) old new r
    → OnOk r (Advances old new (Makes (length os) (AreNew id os) (all_added id os)))
run_step old new id os run good (Err e) h = tt
run_step old new id os run good (Ok count) h = record {
  was_open = λ _. h.1.was_open;
  mode = h.1.mode;
  committed = h.1.committed_is;
  change = λ d t spelled are_new.
      let made = runs old new id os (length os) (runs_mean id os run) count d t spelled are_new good h.0 in (
        made.0,
        λ n room. (
          subst (HasRoom n) (sym made.1) (fewer n (n + length os) (old.now.trees 1) (omega arith) room.0),
          subst (HasRoom n) (sym made.2) (run_room id os (old.now.trees 3) n room.1),
        ),
      );
}
