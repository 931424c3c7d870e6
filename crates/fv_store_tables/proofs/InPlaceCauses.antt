-- No rule of the database refuses the two UPDATEs, whether they find a row or not.
use Rattle.std.proofs.Common.{◌≡◌, inl, inr, bytes_eq, ℕ, ℤ, true, List, [], ◌∷◌, Option, Some, None, Ok, Err, Result, IfErr, refl, sym, subst, ◌∙◌}
use Rattle.sqlite.specs.declared.types.Value.TheVariants.{Null, Text}
use Rattle.sqlite.specs.declared.error.Error.{Error}
use Rattle.sqlite.specs.Order.{Row}
use Rattle.sqlite.specs.Command.TheVariants.{Update}
use Rattle.sqlite.specs.Edit.{Edit, without_all, put_all, taken_by, IsRefused}
use Rattle.sqlite.specs.Query.{IsAnswer}
use Rattle.sqlite.specs.Program.{overlay}
use Rattle.sqlite.specs.Does.{Does}
use Rattle.sqlite.specs.Rows.{Edited, Queried}
use Rattle.sqlite.specs.Ops.{fits_i64}
use Rattle.sqlite.specs.Tree.{Trees, with_tree}
use Rattle.sqlite.specs.Listing.{understood}
use Rattle.sqlite.specs.State.{State, mode_of, ExecutesInside}
use Rattle.sqlite.proofs.Callers.{statement_of}
use Rattle.sqlite_schema.specs.Names.{same_name}
use Rattle.sqlite_value.specs.Keys.{joined}
use Rattle.sqlite_schema.specs.declared.schema.Keys.TheVariants.{Enforced}
use Rattle.sqlite_schema.specs.declared.schema.Constraint.TheVariants.{Datatype, NotNull, Check, PrimaryKey, Unique, ForeignKey}
use Rattle.sqlite_rules.specs.Lists.{Has}
use Rattle.sqlite_rules.specs.declared.error.Refusal.{Refusal}
use Rattle.sqlite_rules.specs.declared.error.Refusal.TheVariants.{Violates, Mismatch, NoRowid, BadReference, TooDeep}
use Rattle.sqlite_typing.specs.Types.{accepts_program}
use Rattle.sqlite_tied.specs.Compute.{everything}
use Rattle.fv_store_tables.specs.Tables.{store_schema, kept_record, kept_object}
use Rattle.fv_store_tables.specs.Stands.{Head, ObjectTexts, ObjectKey, Maps, head_row, part_row, IsTextHead, IsTextPart, SpellsTables, IsOwned, put, added}
use Rattle.fv_store_tables.specs.Causes.{HasRoom, HasRooms, IsShortHead, IsShortPart, IsExcused}
use Rattle.fv_store_tables.proofs.Texts.{change_text, change_query, change_is, change_plain, change_whole, set_text, set_query, set_is, set_plain, set_whole}
use Rattle.fv_store_tables.proofs.RowEdits.{spells_replaced, fresh_again}
use Rattle.fv_store_tables.proofs.Rooms.{rowid_fits}
use Rattle.fv_store_tables.proofs.Layouts.{heads}
use Rattle.fv_store_tables.proofs.Cascade.{works_put_one}
use Rattle.fv_store_tables.proofs.Inserts.{at_trees, in_place, head_params, part_params}
use Rattle.fv_store_tables.proofs.Updates.{exchange, edit_by, edits_one}
use Rattle.fv_store_tables.proofs.InPlace.{no_heads, no_parts, edits_none, set_either, head_exchange, head_edit_by, head_edits_none, head_edits_one, change_either}
use Rattle.fv_store_tables.proofs.Refusals.{no_sum, never_steps, run_cause}
use Rattle.fv_store_tables.proofs.Rules.{apart_of, keys_apart}
use Rattle.fv_store_tables.proofs.RemoveCauses.{heads_allowed, parts_allowed}
use Rattle.fv_store_tables.proofs.Writes.{never_ok, never_false, never_edited, never_concluded, head_fits, part_fits, set_accepted, set_allowed, heads_apart, parts_apart, owned_put, owned_added}

change_accepted : (id form root : List ℕ) → accepts_program store_schema [] change_query (Text id ∷ Text form ∷ Text root ∷ []) ≡ true
unfolding everything
change_accepted id form root = refl

module _ (db : Trees) (d : List Row) (t : Maps) (spelled : SpellsTables (at_trees db) d t) (id : List ℕ) (h k : Head) (n : ℤ) (there : Has (db 1) (head_row n id k)) (good : IsTextHead id h) (fits : fits_i64 n ≡ true) where
  change_allowed : (why : Refusal) → IsRefused store_schema Enforced db (head_exchange (n ∷ []) (head_row n id h ∷ [])) why → ⊥
  unfolding same_name joined
  change_allowed (Violates Datatype) w = never_false w
  change_allowed (Violates NotNull) w = never_false w
  change_allowed (Violates Check) w = never_false w
  change_allowed (Violates PrimaryKey) w = never_false (sym (fresh_again head_row IsTextHead bytes_eq heads (db 1) t.heads spelled.heads n id k h there good) ∙ w)
  change_allowed (Violates Unique) w = w (keys_apart (with_tree db 1 (put_all (without_all (db 1) (n ∷ [])) (head_row n id h ∷ [])))
      (apart_of head_row IsTextHead (put_all (without_all (db 1) (n ∷ [])) (head_row n id h ∷ [])) (put id h t).heads (spells_replaced head_row IsTextHead bytes_eq heads (db 1) t.heads spelled.heads n id k h there good)) (parts_apart db d t spelled))
  change_allowed (Violates ForeignKey) w = w
  change_allowed Mismatch w = never_false w
  change_allowed NoRowid w = never_false (sym (rw fits refl) ∙ w)
  change_allowed BadReference w = never_false w
  change_allowed TooDeep w = w

module _ (s : State) (none : s.step_limit ≡ None) (d : List Row) (t : Maps) (spelled : SpellsTables (at_trees s.now.trees) d t) (owned : IsOwned t) where
  abbrev db : Trees
  db = s.now.trees

  module _ (at : ObjectKey) (p : ObjectTexts) (good : IsTextPart at p) (room : HasRoom 0 (db 3)) (short : IsShortPart at p) where
    never_queried : (stop : Option Error) → Queried s.step_limit (at_trees db) (record { lets = []; body = set_query }) (part_params at p) (Err stop) → ⊥
    never_queried None w = w
    never_queried (Some e) (inl w) = never_false (sym (set_accepted at.0 at.1 p.kind p.fields) ∙ w.1)
    never_queried (Some e) (inr (inl w)) = no_sum (db 3) w.1
    never_queried (Some e) (inr (inr w)) = never_steps s.step_limit none w.1

    never_exchanged : (rows : List Row) → IsAnswer set_query (overlay db []) (part_params at p) rows → (stop : Option Error) → Edited store_schema Enforced db (edit_by db rows) (Err stop) → ⊥
    never_exchanged rows answer stop w = go (t.parts at) refl
      where
        go : (o : Option ObjectTexts) → t.parts at ≡ o → ⊥
        go None lacks =
            never_edited db (exchange [] []) no_parts (parts_allowed db (heads_apart db d t spelled) (parts_apart db d t spelled) []) (λ row never _. never) stop
            (subst (λ (e : Edit). Edited store_schema Enforced db e (Err stop)) (edits_none db t.parts at p rows spelled.parts answer lacks) w)
        go (Some q) has =
            let there = spelled.parts.complete at q has in
            let n = there.0 in
            let row = part_row n at p in
            let edit = exchange (n ∷ []) (row ∷ []) in
            never_edited db edit (works_put_one 3 (taken_by db edit) (row ∷ []) row refl) (set_allowed db d t spelled at p q n there.1 good (rowid_fits (db 3) room (part_row n at q) there.1)) (part_fits n at p short) stop
            (subst (λ (e : Edit). Edited store_schema Enforced db e (Err stop)) (edits_one db t.parts at p rows spelled.parts answer n q there.1) w)

    never_set : (sql : List ℕ) (stop : Option Error) → Does s.step_limit (mode_of s) (part_params at p) (at_trees db) sql None (Update 2 (record { lets = []; body = set_query })) (Err stop) → ⊥
    never_set sql stop (inl (st, inl (st', queried, _), _)) = never_queried st' queried
    never_set sql stop (inl (st, inr (rows, answers, inl (st', edited, _)), _)) = never_exchanged rows (answers.answer Null) st' edited
    never_set sql stop (inl (st, inr (rows, answers, inr (next, edited, wrong)), _)) = never_ok wrong
    never_set sql stop (inr (w, updated, concluded)) = elim (set_either s.step_limit db at p d t spelled good w updated).0 [
      | inl same ↦ never_concluded s kept_object (part_params at p) w d t same.2 owned stop concluded
      | inr made ↦ never_concluded s kept_object (part_params at p) w d (added at p t) made.2 (owned_added at p t owned (owned at made.0.0 made.0.1)) stop concluded
    ]

  module _ (id : List ℕ) (h : Head) (good : IsTextHead id h) (room : HasRoom 0 (db 1)) (short : IsShortHead id h) where
    never_head_queried : (stop : Option Error) → Queried s.step_limit (at_trees db) (record { lets = []; body = change_query }) (head_params id h) (Err stop) → ⊥
    never_head_queried None w = w
    never_head_queried (Some e) (inl w) = never_false (sym (change_accepted id h.form h.root) ∙ w.1)
    never_head_queried (Some e) (inr (inl w)) = no_sum (db 1) w.1
    never_head_queried (Some e) (inr (inr w)) = never_steps s.step_limit none w.1

    never_head_exchanged : (rows : List Row) → IsAnswer change_query (overlay db []) (head_params id h) rows → (stop : Option Error) → Edited store_schema Enforced db (head_edit_by db rows) (Err stop) → ⊥
    never_head_exchanged rows answer stop w = go (t.heads id) refl
      where
        go : (o : Option Head) → t.heads id ≡ o → ⊥
        go None lacks =
            never_edited db (head_exchange [] []) no_heads (heads_allowed db (heads_apart db d t spelled) (parts_apart db d t spelled) []) (λ row never _. never) stop
            (subst (λ (e : Edit). Edited store_schema Enforced db e (Err stop)) (head_edits_none db t.heads id h rows spelled.heads answer lacks) w)
        go (Some q) has =
            let there = spelled.heads.complete id q has in
            let n = there.0 in
            let row = head_row n id h in
            let edit = head_exchange (n ∷ []) (row ∷ []) in
            never_edited db edit (works_put_one 1 (taken_by db edit) (row ∷ []) row refl) (change_allowed db d t spelled id h q n there.1 good (rowid_fits (db 1) room (head_row n id q) there.1)) (head_fits n id h short) stop
            (subst (λ (e : Edit). Edited store_schema Enforced db e (Err stop)) (head_edits_one db t.heads id h rows spelled.heads answer n q there.1) w)

    never_changed : (sql : List ℕ) (stop : Option Error) → Does s.step_limit (mode_of s) (head_params id h) (at_trees db) sql None (Update 1 (record { lets = []; body = change_query })) (Err stop) → ⊥
    never_changed sql stop (inl (st, inl (st', queried, _), _)) = never_head_queried st' queried
    never_changed sql stop (inl (st, inr (rows, answers, inl (st', edited, _)), _)) = never_head_exchanged rows (answers.answer Null) st' edited
    never_changed sql stop (inl (st, inr (rows, answers, inr (next, edited, wrong)), _)) = never_ok wrong
    never_changed sql stop (inr (w, updated, concluded)) = elim (change_either s.step_limit db id h d t spelled good w updated).0 [
      | inl same ↦ never_concluded s kept_record (head_params id h) w d t same.2 owned stop concluded
      | inr made ↦ never_concluded s kept_record (head_params id h) w d (put id h t) made.2 (owned_put id h t owned) stop concluded
    ]

module _ (old new : State) (none : old.step_limit ≡ None) where
  pub part_cause : (at : ObjectKey) (p : ObjectTexts) → IsTextPart at p → (r : Result ℕ Error) → ExecutesInside 0 set_text (part_params at p) old new r
      → IfErr r (λ e. (d : List Row) (t : Maps) → SpellsTables old.now d t → IsOwned t → HasRooms 0 old.now → IsShortPart at p → IsExcused old new e)
  part_cause at p good (Ok count) ran = tt
  part_cause at p good (Err e) ran = λ d t spelled owned room short refused.
      let params = part_params at p in
      let command = Update 2 (record { lets = []; body = set_query }) in
      let text = statement_of set_text (understood store_schema set_text) in
      run_cause set_text params old new store_schema spelled.schema set_plain set_whole command set_is tt
      (λ stop does. never_set old none d t (in_place old.now d t spelled) owned at p good room.1 short text stop
      (subst (λ sc. Does old.step_limit (mode_of old) params (record old.now { schema = sc }) text None command (Err stop)) spelled.schema does)) e ran refused

  pub head_cause : (id : List ℕ) (h : Head) → IsTextHead id h → (r : Result ℕ Error) → ExecutesInside 0 change_text (head_params id h) old new r
      → IfErr r (λ e. (d : List Row) (t : Maps) → SpellsTables old.now d t → IsOwned t → HasRooms 0 old.now → IsShortHead id h → IsExcused old new e)
  head_cause id h good (Ok count) ran = tt
  head_cause id h good (Err e) ran = λ d t spelled owned room short refused.
      let params = head_params id h in
      let command = Update 1 (record { lets = []; body = change_query }) in
      let text = statement_of change_text (understood store_schema change_text) in
      run_cause change_text params old new store_schema spelled.schema change_plain change_whole command change_is tt
      (λ stop does. never_changed old none d t (in_place old.now d t spelled) owned id h good room.0 short text stop
      (subst (λ sc. Does old.step_limit (mode_of old) params (record old.now { schema = sc }) text None command (Err stop)) spelled.schema does)) e ran refused
