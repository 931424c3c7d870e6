-- What the UPDATE of a record's row and that of an object's do, and what they count.
use Rattle.std.proofs.Common.{◌≡◌, ◌⊎◌, inl, inr, bytes_eq, ℕ, ℤ, List, [], ◌∷◌, length, unwrap_or, Option, Some, None, IsSome, Ok, Err, Result, IfOk, refl, sym, ap, subst, subst₂, ◌∙◌}
use Rattle.std.proofs.lemmas.Bool.{false_from_ne_true}
use Rattle.sqlite.specs.declared.types.Value.TheVariants.{Null, Text}
use Rattle.sqlite.specs.declared.error.Error.{Error}
use Rattle.sqlite.specs.Order.{Row}
use Rattle.sqlite.specs.Command.TheVariants.{Update}
use Rattle.sqlite.specs.Edit.{Edit, edit_of, without_all, put_all, taken_by}
use Rattle.sqlite.specs.Rowids.TheVariants.{Given}
use Rattle.sqlite.specs.Query.{Query, IsAnswer}
use Rattle.sqlite.specs.Program.{overlay}
use Rattle.sqlite.specs.Does.{Tally, Does}
use Rattle.sqlite.specs.Rows.{Written}
use Rattle.sqlite.specs.Rows.{Updates as Runs}
use Rattle.sqlite.specs.Tree.{Trees, rowid}
use Rattle.sqlite.specs.Listing.{understood}
use Rattle.sqlite.specs.Effect.{Database}
use Rattle.sqlite.specs.State.{State, mode_of, Executes, ExecutesInside}
use Rattle.sqlite.proofs.Callers.{statement_of, runs_as, one_step}
use Rattle.sqlite_schema.specs.Names.{same_name}
use Rattle.sqlite_value.specs.Keys.{joined}
use Rattle.sqlite_schema.specs.declared.schema.Keys.TheVariants.{Enforced}
use Rattle.sqlite_rules.specs.Action.{Writes, works}
use Rattle.sqlite_rules.specs.Lists.{Has}
use Rattle.sqlite_rules.specs.Calls.{ids_of}
use Rattle.fv_store_tables.specs.Tables.{store_schema, kept_record, kept_object}
use Rattle.fv_store_tables.specs.Rows.{HasRows}
use Rattle.fv_store_tables.specs.Stands.{Head, ObjectTexts, ObjectKey, Maps, same_place, head_row, part_row, IsTextHead, IsTextPart, SpellsTables, put, added}
use Rattle.fv_store_tables.specs.Causes.{HasRoom, HasRooms}
use Rattle.fv_store_tables.specs.Steps.{Advances, Lacks, LacksPart, HasPart, UpdatesHead, UpdatesPart}
use Rattle.fv_store_tables.proofs.Texts.{change_text, change_terms, change_query, change_is, change_plain, set_text, set_terms, set_query, set_is, set_plain, by_first, by_both}
use Rattle.fv_store_tables.proofs.RowEdits.{spells_replaced, numbers_apart, some_none}
use Rattle.fv_store_tables.proofs.Rooms.{room_kept}
use Rattle.fv_store_tables.proofs.Layouts.{heads, parts}
use Rattle.fv_store_tables.proofs.OneTable.{head_by_id, part_by_place, none_shown, one_shown}
use Rattle.fv_store_tables.proofs.Cascade.{works_put_one}
use Rattle.fv_store_tables.proofs.Inserts.{at_trees, in_place, task_of, head_params, part_params, zero_is_not_three, one_is_not_three}
use Rattle.fv_store_tables.proofs.Removes.{went, same_value, zero_is_not_one, three_is_not_one}
use Rattle.fv_store_tables.proofs.Updates.{cast_int, exchange, edit_by, edits_one}

-- an UPDATE that finds no row sets nothing off
pub no_heads : works store_schema Enforced 0 1 [] [] ≡ []
unfolding same_name joined
no_heads = refl

pub no_parts : works store_schema Enforced 0 3 [] [] ≡ []
unfolding same_name joined
no_parts = refl

pub same_rooms : (db new : Database) → new.trees 1 ≡ db.trees 1 → new.trees 3 ≡ db.trees 3 → (n : ℕ) → HasRooms n db → HasRooms n new
same_rooms db new one three n room = (subst (HasRoom n) (sym one) room.0, subst (HasRoom n) (sym three) room.1)

-- ---- the row of an object

module _ (db : Trees) (m : ObjectKey → Option ObjectTexts) (at : ObjectKey) (it : ObjectTexts) (rows : List Row) (s : HasRows part_row IsTextPart (db 3) m) (a : IsAnswer set_query (overlay db []) (part_params at it) rows) where
  pub edits_none : m at ≡ None → edit_by db rows ≡ exchange [] []
  edits_none none =
      ap (edit_by db) (none_shown 3 by_both set_terms [] (overlay db []) (part_params at it) rows a (λ row there.
      let is = s.sound row there in
      part_by_place m at (Text it.kind ∷ Text it.fields ∷ []) row is ∙ false_from_ne_true _ (λ same. some_none is.value (m at) none (ap m (sym ((parts.decides is.key at).0 same)) ∙ is.known))))

-- what an UPDATE of `object` writes, and how many rows
module _ (limit : Option ℕ) (db : Trees) (query : Query) (params : Row) (gone : List ℤ) (news : List Row) (quiet : works store_schema Enforced 0 3 (taken_by db (exchange gone news)) news ≡ [])
    (is : (rows : List Row) → IsAnswer query (overlay db []) params rows → edit_by db rows ≡ exchange gone news) where
  pub set_exchanged : (w : Written) → Runs (task_of limit kept_object params) (record { lets = []; body = query }) params db (Ok w)
      → (w.trees 0 ≡ db 0) × (w.trees 1 ≡ db 1) × (w.trees 3 ≡ put_all (without_all (db 3) gone) news) × (length w.rows ≡ length news)
  set_exchanged w h =
      let given = went h in
      let written = went given.2 in
      let made = same_value written.2 in
      let edit = is given.0 (given.1.answer Null) in
      let applied = one_step store_schema Enforced db written.0 (exchange gone news) quiet (subst (λ e. Writes store_schema Enforced db e (Ok written.0)) edit written.1) in
      let at : (i : ℕ) → w.trees i ≡ written.0 i = λ i. ap (λ (x : Written). x.trees i) made in (
        at 0 ∙ applied.tables.0 zero_is_not_three,
        at 1 ∙ applied.tables.1.0 one_is_not_three,
        at 3 ∙ applied.rows,
        ap (λ (x : Written). length x.rows) made ∙ ap (λ (e : Edit). length e.news) edit,
      )

-- what it leaves where it finds no row
pub none_exchanged : (db : Trees) (w : Written) (d : List Row) (t : Maps) → SpellsTables (at_trees db) d t → w.trees 0 ≡ db 0 → w.trees 1 ≡ db 1 → w.trees 3 ≡ db 3 → SpellsTables (at_trees w.trees) d t
none_exchanged db w d t spelled zero one three = record {
  schema = refl;
  about = zero ∙ spelled.about;
  heads = subst (λ rs. HasRows head_row IsTextHead rs t.heads) (sym one) spelled.heads;
  parts = subst (λ rs. HasRows part_row IsTextPart rs t.parts) (sym three) spelled.parts;
}

-- and where it finds the row of an object
module _ (db : Trees) (place : ObjectKey) (p it : ObjectTexts) (n : ℤ) (there : Has (db 3) (part_row n place p)) (good : IsTextPart place it) (w : Written) (d : List Row) (t : Maps) (spelled : SpellsTables (at_trees db) d t)
    (zero : w.trees 0 ≡ db 0) (one : w.trees 1 ≡ db 1) (three : w.trees 3 ≡ put_all (without_all (db 3) (n ∷ [])) (part_row n place it ∷ [])) where
  pub part_exchanged : SpellsTables (at_trees w.trees) d (added place it t)
  part_exchanged = record {
    schema = refl;
    about = zero ∙ spelled.about;
    heads = subst (λ rs. HasRows head_row IsTextHead rs t.heads) (sym one) spelled.heads;
    parts = subst (λ rs. HasRows part_row IsTextPart rs (added place it t).parts) (sym three) (spells_replaced part_row IsTextPart same_place parts (db 3) t.parts spelled.parts n place p it there good);
  }

  pub room_exchanged : (k : ℕ) → HasRooms k (at_trees db) → HasRooms k (at_trees w.trees)
  room_exchanged k room = (
    subst (HasRoom k) (sym one) room.0,
    room_kept (db 3) (w.trees 3) (n ∷ []) (part_row n place it ∷ []) (λ r put_in. elim put_in [ inl same ↦ (part_row n place p, there, ap rowid same) | inr never ↦ absurd never ]) three k room.1,
  )

module _ (limit : Option ℕ) (db : Trees) (place : ObjectKey) (it : ObjectTexts) (d : List Row) (t : Maps) (spelled : SpellsTables (at_trees db) d t) (good : IsTextPart place it) where
  pub set_either : (w : Written) → Runs (task_of limit kept_object (part_params place it)) (record { lets = []; body = set_query }) (part_params place it) db (Ok w)
      → ((LacksPart place t × (length w.rows ≡ 0) × SpellsTables (at_trees w.trees) d t) ⊎ (HasPart place t × (length w.rows ≡ 1) × SpellsTables (at_trees w.trees) d (added place it t)))
      × ((n : ℕ) → HasRooms n (at_trees db) → HasRooms n (at_trees w.trees))
  set_either w h = go (t.parts place) refl
    where
      go : (o : Option ObjectTexts) → t.parts place ≡ o
          → ((LacksPart place t × (length w.rows ≡ 0) × SpellsTables (at_trees w.trees) d t) ⊎ (HasPart place t × (length w.rows ≡ 1) × SpellsTables (at_trees w.trees) d (added place it t)))
          × ((n : ℕ) → HasRooms n (at_trees db) → HasRooms n (at_trees w.trees))
      go None none =
          let wrote = set_exchanged limit db set_query (part_params place it) [] [] no_parts (λ rows a. edits_none db t.parts place it rows spelled.parts a none) w h in
          (inl (none, wrote.3, none_exchanged db w d t spelled wrote.0 wrote.1 wrote.2), same_rooms (at_trees db) (at_trees w.trees) wrote.1 wrote.2)
      go (Some p) some =
          let there = spelled.parts.complete place p some in
          let n = there.0 in
          let row = part_row n place it in
          let wrote = set_exchanged limit db set_query (part_params place it) (n ∷ []) (row ∷ []) (works_put_one 3 (taken_by db (exchange (n ∷ []) (row ∷ []))) (row ∷ []) row refl)
          (λ rows a. edits_one db t.parts place it rows spelled.parts a n p there.1) w h in (
            inr ((p, some), wrote.3, part_exchanged db place p it n there.1 good w d t spelled wrote.0 wrote.1 wrote.2),
            room_exchanged db place p it n there.1 good w d t spelled wrote.0 wrote.1 wrote.2,
          )

pub part_updates : (old new : State) (place : ObjectKey) (it : ObjectTexts) (count : ℕ) → IsTextPart place it → Executes set_text (part_params place it) old new (Ok count) → UpdatesPart place it count old.now new.now
part_updates old new place it count good h d t spelled =
    let params = part_params place it in
    let command = Update 2 (record { lets = []; body = set_query }) in
    let w = runs_as set_text params old new store_schema spelled.schema command set_is set_plain count h in
    let text = statement_of set_text (understood store_schema set_text) in
    let done = went (subst (λ s. Does old.step_limit (mode_of old) params (record old.now { schema = s }) text None command (Ok (w.tally, new.now))) spelled.schema w.changed) in
    let end = same_value (went (went done.2).2).2 in
    let now : new.now ≡ at_trees done.0.trees = ap (λ (p : Tally × Database). p.1) end in
    let counted : count ≡ length done.0.rows = w.counted ∙ ap (λ (p : Tally × Database). unwrap_or p.0.rows 0) end in
    let wrote = set_either old.step_limit old.now.trees place it d t (in_place old.now d t spelled) good done.0 done.1 in
    subst₂ (λ (k : ℕ) (b : Database). ((LacksPart place t × (k ≡ 0) × SpellsTables b d t) ⊎ (HasPart place t × (k ≡ 1) × SpellsTables b d (added place it t))) × ((n : ℕ) → HasRooms n old.now → HasRooms n b)) (sym counted) (sym now) wrote

pub part_step : (old new : State) (place : ObjectKey) (it : ObjectTexts) (r : Result ℕ Error) → IsTextPart place it → ExecutesInside 0 set_text (part_params place it) old new r → IfOk r (λ count. Advances old new (UpdatesPart place it count))
part_step old new place it (Err e) good h = tt
part_step old new place it (Ok count) good h = record { was_open = λ _. h.1.was_open; mode = h.1.mode; committed = h.1.committed_is; change = part_updates old new place it count good h.0 }

-- ---- the row of a record

-- these rowids are taken out of `record`, and these rows put in
abbrev pub head_exchange : List ℤ → List Row → Edit
head_exchange gone news = record { table = kept_record; gone = gone; news = news }

-- the edit that these rows of the query make
abbrev pub head_edit_by : Trees → List Row → Edit
head_edit_by db rows = edit_of db kept_record (ids_of rows) Given 1 rows

module _ (db : Trees) (m : List ℕ → Option Head) (id : List ℕ) (it : Head) (rows : List Row) (s : HasRows head_row IsTextHead (db 1) m) (a : IsAnswer change_query (overlay db []) (head_params id it) rows) where
  abbrev more : Row
  more = Text it.form ∷ Text it.root ∷ []

  pub head_edits_none : m id ≡ None → head_edit_by db rows ≡ head_exchange [] []
  head_edits_none none =
      ap (head_edit_by db) (none_shown 1 by_first change_terms [] (overlay db []) (head_params id it) rows a (λ row there.
      let is = s.sound row there in
      head_by_id m id more row is ∙ false_from_ne_true _ (λ same. some_none is.value (m id) none (ap m (sym ((heads.decides is.key id).0 same)) ∙ is.known))))

  pub head_edits_one : (n : ℤ) (h : Head) → Has (db 1) (head_row n id h) → head_edit_by db rows ≡ head_exchange (n ∷ []) (head_row n id it ∷ [])
  head_edits_one n h there =
      let row = head_row n id h in
      let is = s.sound row there in
      let key = heads.keyed n is.number id is.key h is.value is.is in
      let shown = one_shown 1 by_first change_terms [] (overlay db []) (head_params id it) rows a s.apart row there (head_by_id m id more row is ∙ (heads.decides is.key id).1 (sym key))
      (λ other has passes.
      let o = s.sound other has in
      let same : o.key ≡ id = (heads.decides o.key id).0 (sym (head_by_id m id more other o) ∙ passes) in
      let has_it : Has (db 1) (head_row o.number id o.value) = subst (Has (db 1)) (o.is ∙ ap (λ k. head_row o.number k o.value) same) has in
      let number = s.once o.number n id o.value h has_it there in
      o.is ∙ ap (λ k. head_row o.number k o.value) same ∙ numbers_apart head_row IsTextHead bytes_eq heads (db 1) m s o.number n id id o.value h has_it there number) in
      ap (head_edit_by db) shown ∙ ap (λ v. head_exchange (n ∷ []) ((v ∷ Text id ∷ more) ∷ [])) (cast_int n)

module _ (limit : Option ℕ) (db : Trees) (id : List ℕ) (it : Head) (gone : List ℤ) (news : List Row) (quiet : works store_schema Enforced 0 1 (taken_by db (head_exchange gone news)) news ≡ [])
    (is : (rows : List Row) → IsAnswer change_query (overlay db []) (head_params id it) rows → head_edit_by db rows ≡ head_exchange gone news) where
  change_exchanged : (w : Written) → Runs (task_of limit kept_record (head_params id it)) (record { lets = []; body = change_query }) (head_params id it) db (Ok w)
      → (w.trees 0 ≡ db 0) × (w.trees 1 ≡ put_all (without_all (db 1) gone) news) × (w.trees 3 ≡ db 3) × (length w.rows ≡ length news)
  change_exchanged w h =
      let given = went h in
      let written = went given.2 in
      let made = same_value written.2 in
      let edit = is given.0 (given.1.answer Null) in
      let applied = one_step store_schema Enforced db written.0 (head_exchange gone news) quiet (subst (λ e. Writes store_schema Enforced db e (Ok written.0)) edit written.1) in
      let at : (i : ℕ) → w.trees i ≡ written.0 i = λ i. ap (λ (x : Written). x.trees i) made in (
        at 0 ∙ applied.tables.0 zero_is_not_one,
        at 1 ∙ applied.rows,
        at 3 ∙ applied.tables.1.1.0 three_is_not_one,
        ap (λ (x : Written). length x.rows) made ∙ ap (λ (e : Edit). length e.news) edit,
      )

module _ (limit : Option ℕ) (db : Trees) (id : List ℕ) (it : Head) (d : List Row) (t : Maps) (spelled : SpellsTables (at_trees db) d t) (good : IsTextHead id it) where
  pub change_either : (w : Written) → Runs (task_of limit kept_record (head_params id it)) (record { lets = []; body = change_query }) (head_params id it) db (Ok w)
      → ((Lacks id t × (length w.rows ≡ 0) × SpellsTables (at_trees w.trees) d t) ⊎ (IsSome (t.heads id) × (length w.rows ≡ 1) × SpellsTables (at_trees w.trees) d (put id it t)))
      × ((n : ℕ) → HasRooms n (at_trees db) → HasRooms n (at_trees w.trees))
  change_either w h = go (t.heads id) refl
    where
      go : (o : Option Head) → t.heads id ≡ o
          → ((Lacks id t × (length w.rows ≡ 0) × SpellsTables (at_trees w.trees) d t) ⊎ (IsSome (t.heads id) × (length w.rows ≡ 1) × SpellsTables (at_trees w.trees) d (put id it t)))
          × ((n : ℕ) → HasRooms n (at_trees db) → HasRooms n (at_trees w.trees))
      go None none =
          let wrote = change_exchanged limit db id it [] [] no_heads (λ rows a. head_edits_none db t.heads id it rows spelled.heads a none) w h in (
            inl (
              none,
              wrote.3,
              record {
                schema = refl;
                about = wrote.0 ∙ spelled.about;
                heads = subst (λ rs. HasRows head_row IsTextHead rs t.heads) (sym wrote.1) spelled.heads;
                parts = subst (λ rs. HasRows part_row IsTextPart rs t.parts) (sym wrote.2) spelled.parts;
              },
            ),
            same_rooms (at_trees db) (at_trees w.trees) wrote.1 wrote.2,
          )
      go (Some p) some =
          let there = spelled.heads.complete id p some in
          let n = there.0 in
          let row = head_row n id it in
          let wrote = change_exchanged limit db id it (n ∷ []) (row ∷ []) (works_put_one 1 (taken_by db (head_exchange (n ∷ []) (row ∷ []))) (row ∷ []) row refl)
          (λ rows a. head_edits_one db t.heads id it rows spelled.heads a n p there.1) w h in (
            inr (
              subst IsSome (sym some) refl,
              wrote.3,
              record {
                schema = refl;
                about = wrote.0 ∙ spelled.about;
                heads = subst (λ rs. HasRows head_row IsTextHead rs (put id it t).heads) (sym wrote.1) (spells_replaced head_row IsTextHead bytes_eq heads (db 1) t.heads spelled.heads n id p it there.1 good);
                parts = subst (λ rs. HasRows part_row IsTextPart rs t.parts) (sym wrote.2) spelled.parts;
              },
            ),
            λ k room. (
              room_kept (db 1) (w.trees 1) (n ∷ []) (row ∷ []) (λ r put_in. elim put_in [ inl same ↦ (head_row n id p, there.1, ap rowid same) | inr never ↦ absurd never ]) wrote.1 k room.0,
              subst (HasRoom k) (sym wrote.2) room.1,
            ),
          )

pub head_updates : (old new : State) (id : List ℕ) (it : Head) (count : ℕ) → IsTextHead id it → Executes change_text (head_params id it) old new (Ok count) → UpdatesHead id it count old.now new.now
head_updates old new id it count good h d t spelled =
    let params = head_params id it in
    let command = Update 1 (record { lets = []; body = change_query }) in
    let w = runs_as change_text params old new store_schema spelled.schema command change_is change_plain count h in
    let text = statement_of change_text (understood store_schema change_text) in
    let done = went (subst (λ s. Does old.step_limit (mode_of old) params (record old.now { schema = s }) text None command (Ok (w.tally, new.now))) spelled.schema w.changed) in
    let end = same_value (went (went done.2).2).2 in
    let now : new.now ≡ at_trees done.0.trees = ap (λ (p : Tally × Database). p.1) end in
    let counted : count ≡ length done.0.rows = w.counted ∙ ap (λ (p : Tally × Database). unwrap_or p.0.rows 0) end in
    let wrote = change_either old.step_limit old.now.trees id it d t (in_place old.now d t spelled) good done.0 done.1 in
    subst₂ (λ (k : ℕ) (b : Database). ((Lacks id t × (k ≡ 0) × SpellsTables b d t) ⊎ (IsSome (t.heads id) × (k ≡ 1) × SpellsTables b d (put id it t))) × ((n : ℕ) → HasRooms n old.now → HasRooms n b)) (sym counted) (sym now) wrote

pub head_step : (old new : State) (id : List ℕ) (it : Head) (r : Result ℕ Error) → IsTextHead id it → ExecutesInside 0 change_text (head_params id it) old new r → IfOk r (λ count. Advances old new (UpdatesHead id it count))
head_step old new id it (Err e) good h = tt
head_step old new id it (Ok count) good h = record { was_open = λ _. h.1.was_open; mode = h.1.mode; committed = h.1.committed_is; change = head_updates old new id it count good h.0 }
