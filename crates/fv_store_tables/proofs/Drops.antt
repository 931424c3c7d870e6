-- What the DELETE of one object does, and why it is refused: no rule does.
use Rattle.std.proofs.Common.{◌≡◌, ◌+◌, inl, inr, ℕ, ℤ, Bool, true, List, [], ◌∷◌, Option, Some, None, Ok, Err, Result, OnOk, IfErr, refl, sym, ap, subst, ◌∙◌, arith}
use Rattle.std.proofs.lemmas.Bool.{cases_Bool}
use Rattle.sqlite.specs.declared.types.Value.TheVariants.{Null, Text}
use Rattle.sqlite.specs.declared.error.Error.{Error}
use Rattle.sqlite.specs.Order.{Row}
use Rattle.sqlite.specs.Command.TheVariants.{Delete}
use Rattle.sqlite.specs.Edit.{taken_by}
use Rattle.sqlite.specs.Query.{IsAnswer}
use Rattle.sqlite.specs.Program.{overlay}
use Rattle.sqlite.specs.Does.{Tally, Does}
use Rattle.sqlite.specs.Rows.{Written, Deletes, Edited, Queried}
use Rattle.sqlite.specs.Tree.{Trees}
use Rattle.sqlite.specs.Listing.{understood}
use Rattle.sqlite.specs.Effect.{Database}
use Rattle.sqlite.specs.State.{State, mode_of, Executes, ExecutesInside}
use Rattle.sqlite.proofs.Callers.{statement_of, runs_as, one_step}
use Rattle.sqlite_schema.specs.Names.{same_name}
use Rattle.sqlite_value.specs.Keys.{joined}
use Rattle.sqlite_schema.specs.declared.schema.Keys.TheVariants.{Enforced}
use Rattle.sqlite_rules.specs.Action.{works}
use Rattle.sqlite_rules.specs.Lists.{Has}
use Rattle.sqlite_rules.specs.Calls.{ids_of}
use Rattle.sqlite_typing.specs.Types.{accepts_program}
use Rattle.sqlite_tied.specs.Compute.{everything}
use Rattle.fv_store_tables.specs.Tables.{store_schema, kept_object}
use Rattle.fv_store_tables.specs.Rows.{HasRows}
use Rattle.fv_store_tables.specs.Stands.{ObjectKey, Maps, same_place, head_row, part_row, IsTextHead, IsTextPart, SpellsTables, IsOwned, dropped}
use Rattle.fv_store_tables.specs.Causes.{HasRoom, IsExcused}
use Rattle.fv_store_tables.specs.Steps.{Advances, Makes, Anyhow}
use Rattle.fv_store_tables.proofs.Texts.{drop_text, drop_query, drop_is, drop_plain, drop_whole, by_both}
use Rattle.fv_store_tables.proofs.RowEdits.{AreOf, spells_left, left_from}
use Rattle.fv_store_tables.proofs.Rooms.{fewer, room_among}
use Rattle.fv_store_tables.proofs.Layouts.{parts}
use Rattle.fv_store_tables.proofs.OneTable.{part_by_place, found}
use Rattle.fv_store_tables.proofs.Inserts.{at_trees, in_place, task_of, zero_is_not_three, one_is_not_three}
use Rattle.fv_store_tables.proofs.Removes.{went, same_value}
use Rattle.fv_store_tables.proofs.Refusals.{run_cause, no_sum, never_steps}
use Rattle.fv_store_tables.proofs.RemoveCauses.{from_parts, parts_allowed}
use Rattle.fv_store_tables.proofs.Writes.{never_ok, never_false, never_edited, never_concluded, heads_apart, parts_apart}

-- no key stands on `object`
works_drop : (gone : List Row) → works store_schema Enforced 0 3 gone [] ≡ []
unfolding same_name joined
works_drop gone = refl

abbrev drop_params : ObjectKey → Row
drop_params at = Text at.0 ∷ Text at.1 ∷ []

module _ (limit : Option ℕ) (db : Trees) (place : ObjectKey) (d : List Row) (t : Maps) (spelled : SpellsTables (at_trees db) d t) where
  abbrev gone : ObjectKey → Bool
  gone k = same_place k place

  are_parts : (rows : List Row) → IsAnswer drop_query (overlay db []) (drop_params place) rows → AreOf part_row (db 3) gone (ids_of rows)
  are_parts rows a = found part_row IsTextPart same_place parts 3 db refl t.parts spelled.parts by_both (drop_params place) gone (part_by_place t.parts place []) rows a

  drop_writes : (w : Written) → Deletes (task_of limit kept_object (drop_params place)) (record { lets = []; body = drop_query }) db (Ok w)
      → SpellsTables (at_trees w.trees) d (dropped place t) × (w.trees 1 ≡ db 1) × ((row : Row) → Has (w.trees 3) row → Has (db 3) row)
  drop_writes w h =
      let given = went h in
      let written = went given.2 in
      let made : w.trees ≡ written.0 = ap (λ (it : Written). it.trees) (same_value written.2) in
      let ids = ids_of given.0 in
      let applied = one_step store_schema Enforced db written.0 (from_parts ids) (works_drop (taken_by db (from_parts ids))) written.1 in
      let at : (n : ℕ) → w.trees n ≡ written.0 n = λ n. ap (λ (ts : Trees). ts n) made in
      let all = at 3 ∙ applied.rows in
      let others = at 1 ∙ applied.tables.1.0 one_is_not_three in (
        record {
          schema = refl;
          about = at 0 ∙ applied.tables.0 zero_is_not_three ∙ spelled.about;
          heads = subst (λ rs. HasRows head_row IsTextHead rs t.heads) (sym others) spelled.heads;
          parts = subst (λ rs. HasRows part_row IsTextPart rs (dropped place t).parts) (sym all) (spells_left part_row IsTextPart same_place parts (db 3) t.parts spelled.parts gone ids (are_parts given.0 (given.1.answer Null)));
        },
        others,
        λ row there. (left_from ids (db 3) row (subst (λ rs. Has rs row) all there)).0,
      )

drops : (old new : State) (place : ObjectKey) (count : ℕ) (d : List Row) (t : Maps) → SpellsTables old.now d t → Executes drop_text (drop_params place) old new (Ok count)
    → SpellsTables new.now d (dropped place t) × (new.now.trees 1 ≡ old.now.trees 1) × ((row : Row) → Has (new.now.trees 3) row → Has (old.now.trees 3) row)
drops old new place count d t spelled h =
    let params = drop_params place in
    let command = Delete 2 (record { lets = []; body = drop_query }) in
    let w = runs_as drop_text params old new store_schema spelled.schema command drop_is drop_plain count h in
    let text = statement_of drop_text (understood store_schema drop_text) in
    let done = went (subst (λ s. Does old.step_limit (mode_of old) params (record old.now { schema = s }) text None command (Ok (w.tally, new.now))) spelled.schema w.changed) in
    let now : new.now ≡ at_trees done.0.trees = ap (λ (p : Tally × Database). p.1) (same_value (went (went done.2).2).2) in
    let wrote = drop_writes old.step_limit old.now.trees place d t (in_place old.now d t spelled) done.0 done.1 in
    subst (λ b. SpellsTables b d (dropped place t) × (b.trees 1 ≡ old.now.trees 1) × ((row : Row) → Has (b.trees 3) row → Has (old.now.trees 3) row)) (sym now) wrote

pub drop_step : (old new : State) (place : ObjectKey) (r : Result ℕ Error) → ExecutesInside 0 drop_text (drop_params place) old new r → OnOk r (Advances old new (Makes 0 Anyhow (dropped place)))
drop_step old new place (Err e) h = tt
drop_step old new place (Ok count) h = record {
  was_open = λ _. h.1.was_open;
  mode = h.1.mode;
  committed = h.1.committed_is;
  change = λ d t spelled _.
      let it = drops old new place count d t spelled h.0 in
      (it.0, λ n room. (subst (HasRoom n) (sym it.1) (fewer n (n + 0) (old.now.trees 1) (omega arith) room.0), room_among (old.now.trees 3) (new.now.trees 3) it.2 n (fewer n (n + 0) (old.now.trees 3) (omega arith) room.1)));
}

-- ---- the cause

pub owned_dropped : (at : ObjectKey) (t : Maps) → IsOwned t → IsOwned (dropped at t)
owned_dropped at t owned other p is = elim (cases_Bool (same_place other at)) [
  | inl same ↦ absurd (let never : None ≡ Some p = rw same at is in cc)
  | inr apart ↦ owned other p (rw apart at is)
]

drop_accepted : (id name : List ℕ) → accepts_program store_schema [] drop_query (Text id ∷ Text name ∷ []) ≡ true
unfolding everything
drop_accepted id name = refl

module _ (s : State) (none : s.step_limit ≡ None) (place : ObjectKey) (d : List Row) (t : Maps) (spelled : SpellsTables (at_trees s.now.trees) d t) (owned : IsOwned t) where
  abbrev db : Trees
  db = s.now.trees

  never_queried : (stop : Option Error) → Queried s.step_limit (at_trees db) (record { lets = []; body = drop_query }) (drop_params place) (Err stop) → ⊥
  never_queried None h = h
  never_queried (Some e) (inl h) = never_false (sym (drop_accepted place.0 place.1) ∙ h.1)
  never_queried (Some e) (inr (inl h)) = no_sum (db 3) h.1
  never_queried (Some e) (inr (inr h)) = never_steps s.step_limit none h.1

  never_taken : (ids : List ℤ) (stop : Option Error) → Edited store_schema Enforced db (from_parts ids) (Err stop) → ⊥
  never_taken ids stop edited =
      never_edited db (from_parts ids) (works_drop (taken_by db (from_parts ids))) (parts_allowed db (heads_apart db d t spelled) (parts_apart db d t spelled) ids) (λ row never _. never) stop edited

  never_dropped : (sql : List ℕ) (stop : Option Error) → Does s.step_limit (mode_of s) (drop_params place) (at_trees db) sql None (Delete 2 (record { lets = []; body = drop_query })) (Err stop) → ⊥
  never_dropped sql stop (inl (st, inl (st', queried, _), _)) = never_queried st' queried
  never_dropped sql stop (inl (st, inr (rows, answers, inl (st', edited, _)), _)) = never_taken (ids_of rows) st' edited
  never_dropped sql stop (inl (st, inr (rows, answers, inr (next, edited, wrong)), _)) = never_ok wrong
  never_dropped sql stop (inr (w, done, concluded)) =
      never_concluded s kept_object (drop_params place) w d (dropped place t) (drop_writes s.step_limit db place d t spelled w done).0 (owned_dropped place t owned) stop concluded

pub drop_cause : (old new : State) → old.step_limit ≡ None → (place : ObjectKey) (r : Result ℕ Error) → ExecutesInside 0 drop_text (drop_params place) old new r
    → IfErr r (λ e. (d : List Row) (t : Maps) → SpellsTables old.now d t → IsOwned t → IsExcused old new e)
drop_cause old new none place (Ok count) h = tt
drop_cause old new none place (Err e) h = λ d t spelled owned refused.
    let params = drop_params place in
    let command = Delete 2 (record { lets = []; body = drop_query }) in
    let text = statement_of drop_text (understood store_schema drop_text) in
    run_cause drop_text params old new store_schema spelled.schema drop_plain drop_whole command drop_is tt
    (λ stop does. never_dropped old none place d t (in_place old.now d t spelled) owned text stop (subst (λ sc. Does old.step_limit (mode_of old) params (record old.now { schema = sc }) text None command (Err stop)) spelled.schema does))
    e h refused
