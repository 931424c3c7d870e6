-- What the INSERT of a record's row does.
use Rattle.std.proofs.Common.{◌≡◌, ◌≢◌, ℕ, List, [], ◌∷◌, map, drop, bytes_eq, Bool, true, false, cond, Option, None, Ok, refl, sym, ap, subst, ◌∙◌}
use Rattle.sqlite.specs.declared.types.Value.{Value}
use Rattle.sqlite.specs.declared.types.Value.TheVariants.{Null, Text}
use Rattle.sqlite.specs.Order.{Row}
use Rattle.sqlite.specs.Ops.{unary}
use Rattle.sqlite.specs.Kind.TheVariants.{Integer}
use Rattle.sqlite.specs.Source.TheVariants.{Values}
use Rattle.sqlite.specs.Command.TheVariants.{Insert}
use Rattle.sqlite.specs.Edit.{Edit, edit_of, put_all, are_fresh, next_rowid, numbered, taken_by}
use Rattle.sqlite.specs.Cast.{cast, cast_row}
use Rattle.sqlite.specs.Rowids.TheVariants.{Chosen}
use Rattle.sqlite.specs.Does.{Tally, Does}
use Rattle.sqlite.specs.Rows.{Task, Written, Inserts}
use Rattle.sqlite.specs.Table.{Table}
use Rattle.sqlite_schema.specs.declared.schema.Keys.TheVariants.{Enforced}
use Rattle.sqlite.specs.Tree.{Trees}
use Rattle.sqlite.specs.Listing.{understood}
use Rattle.sqlite.specs.Effect.{Database}
use Rattle.sqlite.specs.State.{State, mode_of, Executes}
use Rattle.sqlite.proofs.Callers.{statement_of, runs_as, one_step}
use Rattle.fv_store_tables.specs.Tables.{store_schema, kept_record}
use Rattle.fv_store_tables.specs.Rows.{HasRows}
use Rattle.fv_store_tables.specs.Stands.{Head, ObjectTexts, ObjectKey, Maps, head_row, part_row, IsTextHead, IsTextPart, SpellsTables, put}
use Rattle.fv_store_tables.specs.Steps.{Lacks}
use Rattle.fv_store_tables.proofs.Texts.{put_text, put_terms, put_is, put_plain}
use Rattle.fv_store_tables.proofs.RowEdits.{spells_put}
use Rattle.fv_store_tables.proofs.Layouts.{heads}
use Rattle.fv_store_tables.proofs.Cascade.{works_put_one}
use Rattle.fv_store_tables.proofs.Removes.{went, same_value, zero_is_not_one, three_is_not_one}

pub either : (b : Bool) (x : Value) → cond b x x ≡ x
either true x = refl
either false x = refl

pub cast_null : cast Integer Null ≡ Null
unfolding unary
cast_null = either _ Null

pub zero_is_not_three : ◌≢◌ {A = ℕ} 0 3
zero_is_not_three e = cc

pub one_is_not_three : ◌≢◌ {A = ℕ} 1 3
one_is_not_three e = cc

abbrev pub head_params : List ℕ → Head → Row
head_params id h = Text id ∷ Text h.form ∷ Text h.root ∷ []

abbrev pub part_params : ObjectKey → ObjectTexts → Row
part_params at p = Text at.0 ∷ Text at.1 ∷ Text p.kind ∷ Text p.fields ∷ []

-- the database of these trees
abbrev pub at_trees : Trees → Database
at_trees db = record { schema = store_schema; trees = db }

pub in_place : (db : Database) (d : List Row) (t : Maps) → SpellsTables db d t → SpellsTables (at_trees db.trees) d t
in_place db d t s = record { schema = refl; about = s.about; heads = s.heads; parts = s.parts }

abbrev pub task_of : Option ℕ → Table → Row → Task
task_of limit table params = record { limit = limit; keys = Enforced; schema = store_schema; table = table; params = params }

-- ---- the row of a record

module _ (limit : Option ℕ) (db : Trees) (id : List ℕ) (it : Head) (d : List Row) (t : Maps) (spelled : SpellsTables (at_trees db) d t) (none : Lacks id t) (good : IsTextHead id it) where
  abbrev put_new : Row
  put_new = head_row (next_rowid (db 1)) id it

  -- the row is put in under the next rowid, and the other tables are as before
  pub put_writes : (w : Written) → Inserts (task_of limit kept_record (head_params id it)) (Values put_terms 4) db (Ok w)
      → SpellsTables (at_trees w.trees) d (put id it t) × (w.trees 1 ≡ put_all (db 1) (put_new ∷ [])) × (w.trees 3 ≡ db 3)
  put_writes w h =
      let given = went h in
      let written = went (went given.2).2 in
      let counted = went written.2 in
      let trees : w.trees ≡ written.0 = ap (λ (x : Written). x.trees) (same_value counted.2) ∙ same_value counted.1 in
      let edit : Edit = edit_of db kept_record [] Chosen 0 given.0 in
      let row = put_new in
      let news : edit.news ≡ row ∷ [] = ap (λ all. numbered Chosen (db 1) (map (λ s. cast_row kept_record (drop 0 s)) all)) given.1.1 ∙ rw cast_null in
      let applied = one_step store_schema Enforced db written.0 edit (works_put_one 1 (taken_by db edit) edit.news row news) written.1 in
      let rows : written.0 1 ≡ put_all (db 1) (row ∷ []) = applied.rows ∙ ap (put_all (db 1)) news in
      let fresh : are_fresh (db 1) (row ∷ []) ≡ true = ap (are_fresh (db 1)) (sym news) ∙ applied.fresh in
      let at : (n : ℕ) → w.trees n ≡ written.0 n = λ n. ap (λ (ts : Trees). ts n) trees in
      let all = at 1 ∙ rows in
      let others = at 3 ∙ applied.tables.1.1.0 three_is_not_one in (
        record {
          schema = refl;
          about = at 0 ∙ applied.tables.0 zero_is_not_one ∙ spelled.about;
          heads = subst (λ rs. HasRows head_row IsTextHead rs (put id it t).heads) (sym all) (spells_put head_row IsTextHead bytes_eq heads (db 1) t.heads spelled.heads (next_rowid (db 1)) id it none good fresh);
          parts = subst (λ rs. HasRows part_row IsTextPart rs t.parts) (sym others) spelled.parts;
        },
        all,
        others,
      )

module _ (old new : State) (id : List ℕ) (it : Head) (count : ℕ) (d : List Row) (t : Maps) (spelled : SpellsTables old.now d t) (none : Lacks id t) (good : IsTextHead id it) (h : Executes put_text (head_params id it) old new (Ok count)) where
  pub puts : SpellsTables new.now d (put id it t) × (new.now.trees 1 ≡ put_all (old.now.trees 1) (head_row (next_rowid (old.now.trees 1)) id it ∷ [])) × (new.now.trees 3 ≡ old.now.trees 3)
  puts =
      let params = head_params id it in
      let command = Insert 1 (Values put_terms 4) in
      let w = runs_as put_text params old new store_schema spelled.schema command put_is put_plain count h in
      let text = statement_of put_text (understood store_schema put_text) in
      let done = went (subst (λ s. Does old.step_limit (mode_of old) params (record old.now { schema = s }) text None command (Ok (w.tally, new.now))) spelled.schema w.changed) in
      let now : new.now ≡ at_trees done.0.trees = ap (λ (p : Tally × Database). p.1) (same_value (went (went done.2).2).2) in
      let wrote = put_writes old.step_limit old.now.trees id it d t (in_place old.now d t spelled) none good done.0 done.1 in
      subst (λ b. SpellsTables b d (put id it t) × (b.trees 1 ≡ put_all (old.now.trees 1) (head_row (next_rowid (old.now.trees 1)) id it ∷ [])) × (b.trees 3 ≡ old.now.trees 3)) (sym now) wrote
