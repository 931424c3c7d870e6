-- Why the DELETE of a record is refused: no rule does, nor a rule of what the key sets off.
use Rattle.std.proofs.Common.{◌≡◌, ◌||◌, ◌++◌, inl, inr, ℕ, zero, suc, ℤ, Bool, true, false, List, [], ◌∷◌, length, length-append, None, Some, Option, IsSome, Ok, Err, Result, IfErr, refl, sym, ap, subst, ◌∙◌, arith}
use Rattle.std.proofs.lemmas.Bool.{cases_Bool}
use Rattle.sqlite.specs.declared.types.Value.TheVariants.{Text}
use Rattle.sqlite.specs.declared.error.Error.{Error}
use Rattle.sqlite.specs.Order.{Row}
use Rattle.sqlite.specs.Command.TheVariants.{Delete}
use Rattle.sqlite.specs.Edit.{Edit, without_all, taken_by, IsRefused}
use Rattle.sqlite.specs.Rows.{Edited, Queried}
use Rattle.sqlite.specs.Does.{Does}
use Rattle.sqlite.specs.Listing.{understood}
use Rattle.sqlite.specs.State.{State, mode_of, ExecutesInside}
use Rattle.sqlite.specs.Tree.{Trees, with_tree}
use Rattle.sqlite.proofs.Callers.{statement_of}
use Rattle.sqlite_schema.specs.Names.{same_name}
use Rattle.sqlite_value.specs.Keys.{joined}
use Rattle.sqlite_schema.specs.declared.schema.Keys.TheVariants.{Enforced}
use Rattle.sqlite_schema.specs.declared.schema.Constraint.TheVariants.{Datatype, NotNull, Check, PrimaryKey, Unique, ForeignKey}
use Rattle.sqlite_rules.specs.Action.{Work, Acts, ActsOn, Leads, Writes, works}
use Rattle.sqlite_rules.specs.Calls.{ids_of}
use Rattle.sqlite_rules.specs.declared.error.Refusal.{Refusal}
use Rattle.sqlite_rules.specs.declared.error.Refusal.TheVariants.{Violates, Mismatch, NoRowid, BadReference, TooDeep}
use Rattle.sqlite_typing.specs.Types.{accepts_program}
use Rattle.sqlite_tied.specs.Compute.{everything}
use Rattle.fv_store_tables.specs.Tables.{store_schema, kept_record, kept_object}
use Rattle.fv_store_tables.specs.Stands.{Maps, SpellsTables, head_row, part_row, IsTextHead, IsTextPart, IsOwned, removed}
use Rattle.fv_store_tables.specs.Causes.{IsExcused}
use Rattle.fv_store_tables.proofs.Texts.{remove_text, remove_query, remove_is, remove_plain, remove_whole}
use Rattle.fv_store_tables.proofs.Inserts.{at_trees, in_place}
use Rattle.fv_store_tables.proofs.Cascade.{cascade, lost, works_are}
use Rattle.fv_store_tables.proofs.Removes.{remove_writes, three_is_not_one}
use Rattle.fv_store_tables.proofs.Rules.{AreApart, apart_of, apart_left, keys_apart}
use Rattle.fv_store_tables.proofs.Writes.{never_ok, never_false, never_concluded}
use Rattle.fv_store_tables.proofs.Refusals.{run_cause, no_sum, never_steps}

pub never_or : (b : Bool) → (b || true) ≡ false → ⊥
never_or true h = never_false h
never_or false h = never_false h

-- where nothing is left to do, nothing is refused
never_led : (n : ℕ) (db : Trees) (why : Option Refusal) → Leads store_schema Enforced n db [] (Err why) → ⊥
never_led zero db why h = never_ok h.1
never_led (suc n) db why h = omega (arith, ap length h.2, length-append h.0 (h.1 ∷ []))

abbrev pub from_heads : List ℤ → Edit
from_heads ids = record { table = kept_record; gone = ids; news = [] }

abbrev pub from_parts : List ℤ → Edit
from_parts ids = record { table = kept_object; gone = ids; news = [] }

module _ (db : Trees) (hs : AreApart head_row (db 1)) (ps : AreApart part_row (db 3)) where
  pub heads_allowed : (ids : List ℤ) (why : Refusal) → IsRefused store_schema Enforced db (from_heads ids) why → ⊥
  unfolding same_name joined
  heads_allowed ids (Violates Datatype) w = never_false w
  heads_allowed ids (Violates NotNull) w = never_false w
  heads_allowed ids (Violates Check) w = never_false w
  heads_allowed ids (Violates PrimaryKey) w = never_false w
  heads_allowed ids (Violates Unique) w = w (keys_apart (with_tree db 1 (without_all (db 1) ids)) (apart_left head_row (db 1) ids hs) ps)
  heads_allowed ids (Violates ForeignKey) w = w
  heads_allowed ids Mismatch w = never_false w
  heads_allowed ids NoRowid w = never_false w
  heads_allowed ids BadReference w = never_or _ w
  heads_allowed ids TooDeep w = w

  pub parts_allowed : (ids : List ℤ) (why : Refusal) → IsRefused store_schema Enforced db (from_parts ids) why → ⊥
  unfolding same_name joined
  parts_allowed ids (Violates Datatype) w = never_false w
  parts_allowed ids (Violates NotNull) w = never_false w
  parts_allowed ids (Violates Check) w = never_false w
  parts_allowed ids (Violates PrimaryKey) w = never_false w
  parts_allowed ids (Violates Unique) w = w (keys_apart (with_tree db 3 (without_all (db 3) ids)) hs (apart_left part_row (db 3) ids ps))
  parts_allowed ids (Violates ForeignKey) w = w
  parts_allowed ids Mismatch w = never_false w
  parts_allowed ids NoRowid w = never_false w
  parts_allowed ids BadReference w = never_or _ w
  parts_allowed ids TooDeep w = w

  -- the objects of the rows that are taken out are taken out
  never_acted : (n : ℕ) (olds : List Row) (why : Option Refusal) (ids : List ℤ) → ActsOn store_schema Enforced (Leads store_schema Enforced n) db (cascade olds) [] (Err why) ids → ⊥
  unfolding same_name joined
  never_acted n olds why [] h = never_led n db why h
  never_acted n olds why (i ∷ ids) (inl (f, is, same)) = parts_allowed (i ∷ ids) f is
  never_acted n olds why (i ∷ ids) (inr (inl (row, there, big, end))) = there
  never_acted n olds why (i ∷ ids) (inr (inr (next, done, leads))) = never_led n next why leads

  never_acted_last : (n : ℕ) (olds : List Row) (why : Option Refusal) (below : List Work) (w : Work) → cascade olds ∷ [] ≡ below ++ w ∷ [] → Acts store_schema Enforced (Leads store_schema Enforced n) db w below (Err why) → ⊥
  never_acted_last n olds why [] w is h =
      let same : cascade olds ≡ w = cc in
      let it = subst (λ x. Acts store_schema Enforced (Leads store_schema Enforced n) db x [] (Err why)) (sym same) h in
      never_acted n olds why it.0 it.2
  never_acted_last n olds why (b ∷ below) w is h = omega (arith, ap length is, length-append below (w ∷ []))

  never_cascaded : (n : ℕ) (olds : List Row) (why : Option Refusal) → Leads store_schema Enforced n db (cascade olds ∷ []) (Err why) → ⊥
  never_cascaded zero olds why h = never_ok h.1
  never_cascaded (suc n) olds why h = never_acted_last n olds why h.0 h.1 h.2 h.3

never_led_on : (db : Trees) (olds : List Row) (n : ℕ) (why : Option Refusal) → AreApart head_row (db 1) → AreApart part_row (db 3) → Leads store_schema Enforced n db (works store_schema Enforced 0 1 olds []) (Err why) → ⊥
never_led_on db olds n why hs ps leads = elim (cases_Bool (lost olds)) [
  | inl acts ↦ never_cascaded db hs ps n olds why (subst (λ ws. Leads store_schema Enforced n db ws (Err why)) (works_are olds true acts) leads)
  | inr none ↦ never_led n db why (subst (λ ws. Leads store_schema Enforced n db ws (Err why)) (works_are olds false none) leads)
]

module _ (db : Trees) (hs : AreApart head_row (db 1)) (ps : AreApart part_row (db 3)) (ids : List ℤ) where
  never_written : (why : Option Refusal) → Writes store_schema Enforced db (from_heads ids) (Err why) → ⊥
  never_written why (inl (f, is, same)) = heads_allowed db hs ps ids f is
  never_written why (inr (inl (row, there, big, end))) = there
  never_written why (inr (inr (next, done, (n, leads)))) =
      never_led_on next (taken_by db (from_heads ids)) n why (subst (AreApart head_row) (sym done.rows) (apart_left head_row (db 1) ids hs)) (subst (AreApart part_row) (sym (done.tables.1.1.0 three_is_not_one)) ps) leads

  never_taken_out : (stop : Option Error) → Edited store_schema Enforced db (from_heads ids) (Err stop) → ⊥
  never_taken_out stop (why, h, same) = never_written why h

remove_accepted : (id : List ℕ) → accepts_program store_schema [] remove_query (Text id ∷ []) ≡ true
unfolding everything
remove_accepted id = refl

pub owned_removed : (id : List ℕ) (t : Maps) → IsOwned t → IsOwned (removed id t)
owned_removed id t owned at p is = elim (cases_Bool (Rattle.std.proofs.Common.bytes_eq at.0 id)) [
  | inl same ↦ absurd (let never : None ≡ Some p = rw same at is in cc)
  | inr other ↦ rw other (owned at p (rw other at is))
]

module _ (s : State) (none : s.step_limit ≡ None) (id : List ℕ) (d : List Row) (t : Maps) (spelled : SpellsTables (at_trees s.now.trees) d t) (owned : IsOwned t) where
  abbrev params : Row
  params = Text id ∷ []

  abbrev db : Trees
  db = s.now.trees

  never_queried : (stop : Option Error) → Queried s.step_limit (at_trees db) (record { lets = []; body = remove_query }) params (Err stop) → ⊥
  never_queried None h = h
  never_queried (Some e) (inl h) = never_false (sym (remove_accepted id) ∙ h.1)
  never_queried (Some e) (inr (inl h)) = no_sum (db 1) h.1
  never_queried (Some e) (inr (inr h)) = never_steps s.step_limit none h.1

  never_removed : (sql : List ℕ) (stop : Option Error) → Does s.step_limit (mode_of s) params (at_trees db) sql None (Delete 1 (record { lets = []; body = remove_query })) (Err stop) → ⊥
  never_removed sql stop (inl (st, inl (st', queried, _), _)) = never_queried st' queried
  never_removed sql stop (inl (st, inr (rows, answers, inl (st', edited, _)), _)) =
      never_taken_out db (apart_of head_row IsTextHead (db 1) t.heads spelled.heads) (apart_of part_row IsTextPart (db 3) t.parts spelled.parts) (ids_of rows) st' edited
  never_removed sql stop (inl (st, inr (rows, answers, inr (next, edited, wrong)), _)) = never_ok wrong
  never_removed sql stop (inr (w, done, concluded)) =
      never_concluded s kept_record params w d (removed id t) (remove_writes s.step_limit db id d t spelled owned w done).0 (owned_removed id t owned) stop concluded

pub remove_cause : (old new : State) → old.step_limit ≡ None → (id : List ℕ) (r : Result ℕ Error) → ExecutesInside 0 remove_text (Text id ∷ []) old new r
    → IfErr r (λ e. (d : List Row) (t : Maps) → SpellsTables old.now d t → IsOwned t → IsExcused old new e)
remove_cause old new none id (Ok count) h = tt
remove_cause old new none id (Err e) h = λ d t spelled owned refused.
    let params = Text id ∷ [] in
    let command = Delete 1 (record { lets = []; body = remove_query }) in
    let text = statement_of remove_text (understood store_schema remove_text) in
    run_cause remove_text params old new store_schema spelled.schema remove_plain remove_whole command remove_is tt
    (λ stop does. never_removed old none id d t (in_place old.now d t spelled) owned text stop (subst (λ sc. Does old.step_limit (mode_of old) params (record old.now { schema = sc }) text None command (Err stop)) spelled.schema does))
    e h refused
