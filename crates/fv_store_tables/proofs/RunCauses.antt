-- No rule of the database refuses an INSERT of several objects that have room.
use Rattle.std.proofs.Common.{◌≡◌, ◌+◌, inl, inr, ℕ, ℤ, suc, Bool, true, false, length, List, [], ◌∷◌, nat_lt, IsSome, Option, Some, None, Ok, Err, Result, IfErr, refl, sym, ap, subst, ◌∙◌, arith}
use Rattle.std.specs.List.{list_all}
use Rattle.sqlite.specs.declared.error.Error.{Error}
use Rattle.sqlite.specs.Order.{Row}
use Rattle.sqlite.specs.Source.TheVariants.{Values}
use Rattle.sqlite.specs.Command.TheVariants.{Insert}
use Rattle.sqlite.specs.Edit.{Edit, put_all, id_in, next_rowid, IsRefused, IsOversized}
use Rattle.sqlite.specs.Ops.{fits_i64}
use Rattle.sqlite.specs.Does.{Does}
use Rattle.sqlite.specs.Rows.{Edited, Sourced, stamped}
use Rattle.sqlite.specs.Tree.{Trees, rowid, put_row, with_tree}
use Rattle.sqlite.specs.Listing.{understood}
use Rattle.sqlite.specs.View.{is_int}
use Rattle.sqlite.specs.State.{State, mode_of, ExecutesInside}
use Rattle.sqlite.proofs.Callers.{statement_of}
use Rattle.sqlite_schema.specs.declared.schema.Keys.TheVariants.{Enforced}
use Rattle.sqlite_schema.specs.declared.schema.Constraint.TheVariants.{Datatype, NotNull, Check, PrimaryKey, Unique, ForeignKey}
use Rattle.sqlite_schema.specs.Names.{same_name}
use Rattle.sqlite_schema.specs.Rules.{references_fit, passes}
use Rattle.sqlite_value.specs.Keys.{joined}
use Rattle.sqlite_rules.specs.Lists.{Has}
use Rattle.sqlite_rules.specs.declared.error.Refusal.{Refusal}
use Rattle.sqlite_rules.specs.declared.error.Refusal.TheVariants.{Violates, Mismatch, NoRowid, BadReference, TooDeep}
use Rattle.fv_store_tables.specs.Tables.{store_schema, kept_object}
use Rattle.fv_store_tables.specs.Stands.{ObjectTexts, ObjectKey, Maps, part_row, IsTextPart, SpellsTables, IsOwned}
use Rattle.fv_store_tables.specs.Causes.{HasRoom, HasRooms, AreShort, IsExcused}
use Rattle.fv_store_tables.specs.Changes.{AllTexts, all_added}
use Rattle.fv_store_tables.specs.Inserting.{IsRun, AreNew, insert_of, row_values}
use Rattle.fv_store_tables.proofs.RunTexts.{run_terms, RunMeans, runs_mean}
use Rattle.fv_store_tables.proofs.Runs.{run_rows, first_row, AreTexts, run_fresh, run_put, run_writes, made_rows, quiet}
use Rattle.fv_store_tables.proofs.Rooms.{fewer, next_fits, room_after}
use Rattle.fv_store_tables.proofs.Inserts.{at_trees, in_place}
use Rattle.fv_store_tables.proofs.Refusals.{never_steps, run_cause}
use Rattle.fv_store_tables.proofs.Rules.{apart_of, keys_apart}
use Rattle.fv_store_tables.proofs.Composed.{owned_all}
use Rattle.fv_store_tables.proofs.Writes.{never_ok, never_false, never_edited, never_concluded, part_fits, heads_apart}

-- each of the rows passes what every row of an object passes
every : (test : Row → Bool) → ((n : ℤ) (at : ObjectKey) (p : ObjectTexts) → test (part_row n at p) ≡ true) → (id : List ℕ) (os : AllTexts) (rows : List Row) → list_all test (run_rows id os rows) ≡ true
every test each id [] rows = refl
every test each id (o ∷ os) rows = rw (each (next_rowid rows) (id, o.0) o.1) (every test each id os (put_row (first_row id o rows) rows))

-- and has a rowid of 64 bits
all_fit : (id : List ℕ) (os : AllTexts) (rows : List Row) → HasRoom (length os) rows → list_all (λ r. fits_i64 (id_in (rowid r))) (run_rows id os rows) ≡ true
all_fit id [] rows room = refl
all_fit id (o ∷ os) rows room =
    let row = first_row id o rows in
    let fits : fits_i64 (next_rowid rows) ≡ true = next_fits rows (fewer 1 (suc (length os)) rows (omega arith) room) in
    let rest = all_fit id os (put_row row rows) (room_after rows (put_row row rows) row refl refl (length os) (fewer (length os + 1) (suc (length os)) rows (omega arith) room)) in
    rw fits rest

-- none is too long
none_oversized : (id : List ℕ) (os : AllTexts) (rows : List Row) → AreShort id os → (row : Row) → Has (run_rows id os rows) row → IsOversized store_schema kept_object row → ⊥
none_oversized id [] rows short row h big = h
none_oversized id (o ∷ os) rows short row (inl is) big = part_fits (next_rowid rows) (id, o.0) o.1 short.0 row (inl is) big
none_oversized id (o ∷ os) rows short row (inr later) big = none_oversized id os (put_row (first_row id o rows) rows) short.1 row later big

-- the reference of `object` fits, however many rows are put in
fits_reference : (some : Bool) → references_fit store_schema kept_object some false ≡ true
unfolding same_name joined
fits_reference true = refl
fits_reference false = refl

abbrev run_edit : List Row → Edit
run_edit news = record { table = kept_object; gone = []; news = news }

module _ (db : Trees) (d : List Row) (t : Maps) (spelled : SpellsTables (at_trees db) d t) (id : List ℕ) (os : AllTexts) (new : AreNew id os t) (good : AreTexts id os) (room : HasRoom (length os) (db 3)) where
  abbrev news : List Row
  news = run_rows id os (db 3)

  run_allowed : (why : Refusal) → IsRefused store_schema Enforced db (run_edit news) why → ⊥
  unfolding same_name joined
  run_allowed (Violates Datatype) w = never_false (sym (every (passes Datatype store_schema db kept_object) (λ n at p. refl) id os (db 3)) ∙ w)
  run_allowed (Violates NotNull) w = never_false (sym (every (passes NotNull store_schema db kept_object) (λ n at p. refl) id os (db 3)) ∙ w)
  run_allowed (Violates Check) w = never_false (sym (every (passes Check store_schema db kept_object) (λ n at p. refl) id os (db 3)) ∙ w)
  run_allowed (Violates PrimaryKey) w = never_false (sym (run_fresh id os (db 3) t spelled.parts new good) ∙ w)
  run_allowed (Violates Unique) w = w (keys_apart (with_tree db 3 (put_all (db 3) news)) (heads_apart db d t spelled)
      (apart_of part_row IsTextPart (put_all (db 3) news) (all_added id os t).parts (run_put id os (db 3) t spelled.parts new good)))
  run_allowed (Violates ForeignKey) w = w
  run_allowed Mismatch w = never_false (sym (every (λ r. is_int (rowid r)) (λ n at p. refl) id os (db 3)) ∙ w)
  run_allowed NoRowid w = never_false (sym (all_fit id os (db 3) room) ∙ w)
  run_allowed BadReference w = never_false (sym (fits_reference (nat_lt 0 (length news))) ∙ w)
  run_allowed TooDeep w = w

module _ (s : State) (none : s.step_limit ≡ None) (d : List Row) (t : Maps) (spelled : SpellsTables (at_trees s.now.trees) d t) (owned : IsOwned t)
    (id : List ℕ) (os : AllTexts) (n : ℕ) (means : RunMeans n id os) (new : AreNew id os t) (has : IsSome (t.heads id)) (good : AreTexts id os) (room : HasRoom (length os) (s.now.trees 3)) (short : AreShort id os) where
  abbrev db : Trees
  db = s.now.trees

  never_sourced : (stop : Option Error) → Sourced s.step_limit (at_trees db) (stamped kept_object (row_values id os)) (Values (run_terms n 1) 5) (Err stop) → ⊥
  never_sourced None w = w
  never_sourced (Some e) (inl w) = never_false (sym means.accepted ∙ w.1)
  never_sourced (Some e) (inr w) = never_steps s.step_limit none w.1

  never_run : (sql : List ℕ) (stop : Option Error) → Does s.step_limit (mode_of s) (row_values id os) (at_trees db) sql None (Insert 2 (Values (run_terms n 1) 5)) (Err stop) → ⊥
  never_run sql stop (inl (st, inl (st', sourced, _), _)) = never_sourced st' sourced
  never_run sql stop (inl (st, inr (rows, given, inl (st', wrong, _)), _)) = never_ok wrong
  never_run sql stop (inl (st, inr (rows, given, inr (counter, counted, inl (st', edited, _))), _)) =
      let is = ap run_edit (made_rows db id os rows (given.1 ∙ means.given)) in
      never_edited db (run_edit (run_rows id os (db 3))) (quiet [] (run_rows id os (db 3))) (run_allowed db d t spelled id os new good room) (none_oversized id os (db 3) short) st'
      (subst (λ (edit : Edit). Edited store_schema Enforced db edit (Err st')) is edited)
  never_run sql stop (inl (st, inr (rows, given, inr (counter, counted, inr (next, edited, inl (st', wrong, _)))), _)) = never_ok wrong
  never_run sql stop (inl (st, inr (rows, given, inr (counter, counted, inr (next, edited, inr (after, kept, wrong)))), _)) = never_ok wrong
  never_run sql stop (inr (w, inserted, concluded)) =
      never_concluded s kept_object (row_values id os) w d (all_added id os t) (run_writes s.step_limit db id os n means d t spelled new good w inserted).0 (owned_all id os t owned has) stop concluded

pub run_refused : (old new : State) → old.step_limit ≡ None → (id : List ℕ) (os : AllTexts) → IsRun (length os) → AreTexts id os → (r : Result ℕ Error) → ExecutesInside 0 (insert_of (length os)) (row_values id os) old new r
    → IfErr r (λ e. (d : List Row) (t : Maps) → SpellsTables old.now d t → IsOwned t → AreNew id os t → IsSome (t.heads id) → HasRooms (length os) old.now → AreShort id os → IsExcused old new e)
run_refused old new none id os run good (Ok count) ran = tt
run_refused old new none id os run good (Err e) ran = λ d t spelled owned are_new has room short refused.
    let means = runs_mean id os run in
    let text = statement_of (insert_of (length os)) (understood store_schema (insert_of (length os))) in
    run_cause (insert_of (length os)) (row_values id os) old new store_schema spelled.schema means.plain means.whole (Insert 2 (Values (run_terms (length os) 1) 5)) means.is tt
    (λ stop does. never_run old none d t (in_place old.now d t spelled) owned id os (length os) means are_new has good room.1 short text stop
    (subst (λ sc. Does old.step_limit (mode_of old) (row_values id os) (record old.now { schema = sc }) text None (Insert 2 (Values (run_terms (length os) 1) 5)) (Err stop)) spelled.schema does)) e ran refused
