-- No rule of the database refuses the UPDATE of a range.
use Rattle.std.proofs.Common.{◌≡◌, inl, inr, ℕ, ℤ, Bool, true, false, length, List, [], ◌∷◌, map, nat_lt, IsSome, Option, Some, None, Ok, Err, Result, IfErr, refl, sym, ap, subst, ◌∙◌, arith}
use Rattle.std.specs.List.{list_all}
use Rattle.sqlite.specs.declared.types.Value.TheVariants.{Null, Int}
use Rattle.sqlite.specs.declared.error.Error.{Error}
use Rattle.sqlite.specs.Order.{Row}
use Rattle.sqlite.specs.Command.TheVariants.{Update}
use Rattle.sqlite.specs.Edit.{Edit, id_in, put_all, without_all, taken_by, IsRefused, IsOversized}
use Rattle.sqlite.specs.Ops.{fits_i64}
use Rattle.sqlite.specs.Query.{IsAnswer}
use Rattle.sqlite.specs.Program.{overlay}
use Rattle.sqlite.specs.Does.{Does}
use Rattle.sqlite.specs.Rows.{Edited, Queried}
use Rattle.sqlite.specs.Tree.{Trees, IsAscending, rowid, with_tree}
use Rattle.sqlite.specs.Listing.{understood}
use Rattle.sqlite.specs.View.{is_int}
use Rattle.sqlite.specs.State.{State, mode_of, ExecutesInside}
use Rattle.sqlite.proofs.Callers.{statement_of}
use Rattle.sqlite_schema.specs.declared.schema.Keys.TheVariants.{Enforced}
use Rattle.sqlite_schema.specs.declared.schema.Constraint.TheVariants.{Datatype, NotNull, Check, PrimaryKey, Unique, ForeignKey}
use Rattle.sqlite_schema.specs.Names.{same_name}
use Rattle.sqlite_schema.specs.Rules.{references_fit, passes}
use Rattle.sqlite_value.specs.Keys.{joined}
use Rattle.sqlite_rules.specs.Lists.{Has}
use Rattle.sqlite_rules.specs.declared.error.Refusal.{Refusal}
use Rattle.sqlite_rules.specs.declared.error.Refusal.TheVariants.{Violates, Mismatch, NoRowid, BadReference, TooDeep}
use Rattle.sqlite_rules.proofs.ListLemmas.{test_from}
use Rattle.sqlite_rules.proofs.ProbeLemmas.{has_mapped}
use Rattle.fv_store_tables.specs.Tables.{store_schema, kept_object}
use Rattle.fv_store_tables.specs.Rows.{HasRows}
use Rattle.fv_store_tables.specs.Stands.{ObjectTexts, Maps, NumberedThing, IsTextPart, part_row, SpellsTables, IsOwned}
use Rattle.fv_store_tables.specs.Causes.{HasRoom, HasRooms, AreShort, IsExcused, IsShortPart}
use Rattle.fv_store_tables.specs.Changes.{NamedTexts, AllTexts, AreApart as AreNamedApart, all_added}
use Rattle.fv_store_tables.specs.Steps.{AreRowsOf, ArePartsOf}
use Rattle.fv_store_tables.specs.Updating.{IsRange, range_values, places_of, things_of, under_rowids}
use Rattle.fv_store_tables.proofs.RangeEdits.{fresh, range_writes, spells_range}
use Rattle.fv_store_tables.proofs.RangePlaces.{object_of, long_filled, long_under}
use Rattle.fv_store_tables.proofs.RangeTexts.{range_accepted, range_is, range_plain, range_query, range_text, range_whole}
use Rattle.fv_store_tables.proofs.Ranges.{edit_shown, old_row, order, row_for}
use Rattle.fv_store_tables.proofs.Rooms.{rowid_fits}
use Rattle.fv_store_tables.proofs.Runs.{AreTexts, quiet}
use Rattle.fv_store_tables.proofs.Updates.{edit_by, exchange}
use Rattle.fv_store_tables.proofs.Inserts.{at_trees, in_place}
use Rattle.fv_store_tables.proofs.Refusals.{no_sum, never_steps, run_cause}
use Rattle.fv_store_tables.proofs.Rules.{apart_of, keys_apart}
use Rattle.fv_store_tables.proofs.Composed.{owned_all}
use Rattle.fv_store_tables.proofs.Writes.{never_ok, never_false, never_edited, never_concluded, part_fits, heads_apart}

-- each row passes what the rows of the places pass
every : (id : List ℕ) (zs : List NumberedThing) (test : Row → Bool) → ((z : NumberedThing) → Has zs z → test (row_for id z) ≡ true) → list_all test (map (row_for id) zs) ≡ true
every id zs test each = test_from test (map (row_for id) zs) (λ row h. let z = has_mapped (row_for id) zs row h in ap test z.2 ∙ each z.0 z.1)

short_has : (id : List ℕ) (os : AllTexts) (o : NamedTexts) → AreShort id os → Has os o → IsShortPart (id, o.0) o.1
short_has id [] o short h = absurd h
short_has id (x ∷ os) o short (inl is) = subst (λ (e : List ℕ × ObjectTexts). IsShortPart (id, e.0) e.1) (sym is) short.0
short_has id (x ∷ os) o short (inr later) = short_has id os o short.1 later

-- the reference of `object` fits, however many rows are written
fits_both : (some gone : Bool) → references_fit store_schema kept_object some gone ≡ true
unfolding same_name joined
fits_both true true = refl
fits_both true false = refl
fits_both false true = refl
fits_both false false = refl

module _ (db : Trees) (id : List ℕ) (rs : List NumberedThing) (os : AllTexts) (range : IsRange rs os) (d : List Row) (t : Maps) (spelled : SpellsTables (at_trees db) d t)
    (are : AreRowsOf id rs (at_trees db)) (all : ArePartsOf id (things_of rs) t) (apart : AreNamedApart os) (texts : AreTexts id os)
    (zs : List NumberedThing) (only : (z : NumberedThing) → Has zs z → Has (under_rowids rs os) z) (each : (z : NumberedThing) → Has (under_rowids rs os) z → Has zs z)
    (differ : IsAscending (λ (y z : NumberedThing). Int y.0 ≡ Int z.0 → ⊥) zs) where
  abbrev gone : List ℤ
  gone = map (λ (z : NumberedThing). z.0) zs

  abbrev news : List Row
  news = map (row_for id) zs

  spells : HasRows part_row IsTextPart (put_all (without_all (db 3) gone) news) (all_added id os t).parts
  spells = spells_range db id rs os range t spelled.parts are all apart texts zs only each differ

  range_allowed : HasRoom 0 (db 3) → (why : Refusal) → IsRefused store_schema Enforced db (exchange gone news) why → ⊥
  unfolding same_name joined
  range_allowed room (Violates Datatype) w = never_false (sym (every id zs (passes Datatype store_schema db kept_object) (λ z h. refl)) ∙ w)
  range_allowed room (Violates NotNull) w = never_false (sym (every id zs (passes NotNull store_schema db kept_object) (λ z h. refl)) ∙ w)
  range_allowed room (Violates Check) w = never_false (sym (every id zs (passes Check store_schema db kept_object) (λ z h. refl)) ∙ w)
  range_allowed room (Violates PrimaryKey) w = never_false (sym (fresh db id rs os range t spelled.parts are all apart texts zs only each differ) ∙ w)
  range_allowed room (Violates Unique) w = w (keys_apart (with_tree db 3 (put_all (without_all (db 3) gone) news)) (heads_apart db d t spelled)
      (apart_of part_row IsTextPart (put_all (without_all (db 3) gone) news) (all_added id os t).parts spells))
  range_allowed room (Violates ForeignKey) w = w
  range_allowed room Mismatch w = never_false (sym (every id zs (λ r. is_int (rowid r)) (λ z h. refl)) ∙ w)
  range_allowed room NoRowid w = never_false (sym (every id zs (λ r. fits_i64 (id_in (rowid r))) (λ z h.
      let before = old_row db id rs os range t spelled.parts are all z (only z h) in rowid_fits (db 3) room (part_row z.0 (id, z.1.0) before.0) before.1)) ∙ w)
  range_allowed room BadReference w = never_false (sym (fits_both (nat_lt 0 (length news)) (nat_lt 0 (length gone))) ∙ w)
  range_allowed room TooDeep w = w

  range_fits : AreShort id os → (row : Row) → Has news row → IsOversized store_schema kept_object row → ⊥
  range_fits short row h big =
      let z = has_mapped (row_for id) zs row h in
      part_fits z.0.0 (id, z.0.1.0) z.0.1.1 (short_has id os z.0.1 short (object_of rs os z.0 (only z.0 z.1))) row (inl z.2) big

module _ (s : State) (none : s.step_limit ≡ None) (id : List ℕ) (rs : List NumberedThing) (os : AllTexts) (range : IsRange rs os) (d : List Row) (t : Maps) (spelled : SpellsTables (at_trees s.now.trees) d t)
    (are : AreRowsOf id rs (at_trees s.now.trees)) (all : ArePartsOf id (things_of rs) t) (apart : AreNamedApart os) (texts : AreTexts id os) (owned : IsOwned t) (has : IsSome (t.heads id))
    (room : HasRoom 0 (s.now.trees 3)) (short : AreShort id os) where
  abbrev db : Trees
  db = s.now.trees

  abbrev params : Row
  params = range_values id (places_of rs os)

  accepted : length (places_of rs os) ≡ 16
  accepted = long_filled 16 (under_rowids rs os) (omega (arith, long_under range.follow.0 rs os range.follow.1, range.some))

  never_queried : (stop : Option Error) → Queried s.step_limit (at_trees db) (record { lets = []; body = range_query }) params (Err stop) → ⊥
  never_queried None w = w
  never_queried (Some e) (inl w) = never_false (sym (range_accepted id (places_of rs os) accepted) ∙ w.1)
  never_queried (Some e) (inr (inl w)) = no_sum (db 3) w.1
  never_queried (Some e) (inr (inr w)) = never_steps s.step_limit none w.1

  never_exchanged : (rows : List Row) → IsAnswer range_query (overlay db []) params rows → (stop : Option Error) → Edited store_schema Enforced db (edit_by db rows) (Err stop) → ⊥
  never_exchanged rows answer stop w =
      let o = order db id rs os range t spelled.parts are all rows answer in
      let edit = exchange (map (λ (z : NumberedThing). z.0) o.zs) (map (row_for id) o.zs) in
      never_edited db edit (quiet (taken_by db edit) (map (row_for id) o.zs)) (range_allowed db id rs os range d t spelled are all apart texts o.zs o.only o.each o.apart room)
      (range_fits db id rs os range d t spelled are all apart texts o.zs o.only o.each o.apart short) stop
      (subst (λ (e : Edit). Edited store_schema Enforced db e (Err stop)) (ap (edit_by db) o.shown ∙ edit_shown id db o.zs) w)

  never_run : (sql : List ℕ) (stop : Option Error) → Does s.step_limit (mode_of s) params (at_trees db) sql None (Update 2 (record { lets = []; body = range_query })) (Err stop) → ⊥
  never_run sql stop (inl (st, inl (st', queried, _), _)) = never_queried st' queried
  never_run sql stop (inl (st, inr (rows, answers, inl (st', edited, _)), _)) = never_exchanged rows (answers.answer Null) st' edited
  never_run sql stop (inl (st, inr (rows, answers, inr (next, edited, wrong)), _)) = never_ok wrong
  never_run sql stop (inr (w, updated, concluded)) =
      never_concluded s kept_object params w d (all_added id os t) (range_writes s.step_limit db id rs os range d t spelled are all apart texts w updated).0 (owned_all id os t owned has) stop concluded

pub range_cause : (old new : State) → old.step_limit ≡ None → (id : List ℕ) (rs : List NumberedThing) (os : AllTexts) → IsRange rs os → AreTexts id os → (r : Result ℕ Error)
    → ExecutesInside 0 range_text (range_values id (places_of rs os)) old new r
    → IfErr r (λ e. (d : List Row) (t : Maps) → SpellsTables old.now d t → AreRowsOf id rs old.now → ArePartsOf id (things_of rs) t → AreNamedApart os → IsOwned t → IsSome (t.heads id) → HasRooms 0 old.now → AreShort id os
    → IsExcused old new e)
range_cause old new none id rs os range texts (Ok count) ran = tt
range_cause old new none id rs os range texts (Err e) ran = λ d t spelled are all apart owned has room short refused.
    let params = range_values id (places_of rs os) in
    let command = Update 2 (record { lets = []; body = range_query }) in
    let text = statement_of range_text (understood store_schema range_text) in
    let long = long_filled 16 (under_rowids rs os) (omega (arith, long_under range.follow.0 rs os range.follow.1, range.some)) in
    run_cause range_text params old new store_schema spelled.schema range_plain (range_whole id (places_of rs os) long) command range_is tt
    (λ stop does. never_run old none id rs os range d t (in_place old.now d t spelled) are all apart texts owned has room.1 short text stop
    (subst (λ sc. Does old.step_limit (mode_of old) params (record old.now { schema = sc }) text None command (Err stop)) spelled.schema does)) e ran refused
