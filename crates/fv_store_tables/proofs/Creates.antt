-- What the CREATE statements and the first row of `about` do.
use Rattle.std.proofs.Common.{◌≡◌, ◌≢◌, map, drop, ℕ, ℤ, pos, List, [], ◌∷◌, false, Option, Some, None, Ok, Err, Result, OnOk, refl, sym, ap, subst, ◌∙◌}
use Rattle.sqlite.specs.declared.types.Value.TheVariants.{Blob}
use Rattle.sqlite.specs.declared.error.Error.{Error}
use Rattle.sqlite.specs.Order.{Row}
use Rattle.sqlite.specs.Command.TheVariants.{CreateTable, Insert}
use Rattle.sqlite.specs.Compile.{table_defined_by}
use Rattle.sqlite.specs.Change.{created, next_tree, KeepsRows}
use Rattle.sqlite.specs.Table.{Table}
use Rattle.sqlite.specs.Schema.{Schema}
use Rattle.sqlite.specs.Edit.{Edit, edit_of, numbered, put_all, taken_by}
use Rattle.sqlite.specs.Rowids.TheVariants.{Chosen}
use Rattle.sqlite.specs.Does.{Tally, Does, lacks_sequence}
use Rattle.sqlite.specs.Rows.{Written, Inserts}
use Rattle.sqlite.specs.Source.TheVariants.{Values}
use Rattle.sqlite.specs.Cast.{cast_row}
use Rattle.sqlite.specs.Tree.{Trees}
use Rattle.sqlite.specs.Listing.{understood}
use Rattle.sqlite.specs.Effect.{Database}
use Rattle.sqlite.specs.State.{State, mode_of, Writes, Executes, ExecutesInside}
use Rattle.sqlite.proofs.Callers.{IsPlain, command_of, statement_of, runs_as, one_step}
use Rattle.sqlite_schema.specs.declared.schema.Keys.TheVariants.{Enforced}
use Rattle.fv_store_tables.specs.Tables.{about_text, record_text, object_text, about, record_table, object_table, no_schema, bare_schema, half_schema, store_schema}
use Rattle.fv_store_tables.specs.Rows.{HasRows}
use Rattle.fv_store_tables.specs.Stands.{about_row, SpellsTables, head_row, part_row, IsTextHead, IsTextPart, tables_of}
use Rattle.fv_store_tables.specs.Steps.{Advances}
use Rattle.fv_store_tables.specs.Creating.{IsBlank, IsBare, IsHalf, IsMade, IsEmpty, no_entries, Leads, Builds}
use Rattle.fv_store_tables.proofs.Texts.{about_is, record_is, object_is, made_about_is, made_about_plain, made_record_is, made_record_plain, made_object_is, made_object_plain, first_text, first_terms, first_is, first_plain}
use Rattle.fv_store_tables.proofs.Cascade.{works_put_one}
use Rattle.fv_store_tables.proofs.Removes.{went, same_value}
use Rattle.fv_store_tables.proofs.Inserts.{at_trees, task_of, cast_null}
use Rattle.fv_store_tables.proofs.Updates.{cast_int}

-- one CREATE TABLE, whatever the text and the schema are
pub record Made (schema : Schema) (table : Table) (old new : State) : Type 0 where
  pub schema_is : new.now.schema ≡ created schema table
  pub empty : new.now.trees (next_tree schema) ≡ []
  pub others : KeepsRows schema.tables old.now.trees new.now.trees

module _ (text : List ℕ) (schema : Schema) (table : Table) (defined : table_defined_by text ≡ Ok table) (uncounted : lacks_sequence (created schema table) ≡ false)
    (is : command_of (understood schema text) ≡ CreateTable) (same : statement_of text (understood schema text) ≡ text) (plain : IsPlain (understood schema text)) where
  pub makes : (old new : State) (count : ℕ) → old.now.schema ≡ schema → Executes text [] old new (Ok count) → Made schema table old new
  makes old new count has h =
      let w = subst (λ t. Writes old new None CreateTable t [] count) same (runs_as text [] old new schema has CreateTable is plain count h) in
      let all = went w.changed in
      let first = went all.1 in
      let made = first.1 in
      let both : Ok made.table ≡ Ok table = sym made.defined ∙ defined in
      let alike : made.table ≡ table = same_value both in
      let made_schema : first.0.schema ≡ created schema table = made.is ∙ ap (λ s. created s made.table) has ∙ ap (created schema) alike in
      let bare : lacks_sequence first.0.schema ≡ false = ap lacks_sequence made_schema ∙ uncounted in
      let now : new.now ≡ first.0 = ap (λ (p : Tally × Database). p.1) (same_value all.2) ∙ same_value (rw bare at first.2) in
      record {
        schema_is = ap (λ (d : Database). d.schema) now ∙ made_schema;
        empty = ap (λ (d : Database). d.trees (next_tree schema)) now ∙ subst (λ s. first.0.trees (next_tree s) ≡ []) has made.empty;
        others = subst (λ (d : Database). KeepsRows schema.tables old.now.trees d.trees) (sym now) (subst (λ (s : Schema). KeepsRows s.tables old.now.trees first.0.trees) has made.others);
      }

pub about_step : (old new : State) (r : Result ℕ Error) → ExecutesInside 0 about_text [] old new r → OnOk r (Advances old new (Leads IsBlank (IsBare [])))
about_step old new (Err e) h = tt
about_step old new (Ok count) h = record {
  was_open = λ _. h.1.was_open;
  mode = h.1.mode;
  committed = h.1.committed_is;
  change = λ has. let it = makes about_text no_schema about about_is refl made_about_is.0 made_about_is.1 made_about_plain old new count has h.0 in (it.schema_is, it.empty);
}

pub record_step : (old new : State) (r : Result ℕ Error) → ExecutesInside 0 record_text [] old new r → OnOk r (Advances old new (Builds IsBare IsHalf))
record_step old new (Err e) h = tt
record_step old new (Ok count) h = record {
  was_open = λ _. h.1.was_open;
  mode = h.1.mode;
  committed = h.1.committed_is;
  change = λ d has.
      let it = makes record_text bare_schema record_table record_is refl made_record_is.0 made_record_is.1 made_record_plain old new count has.0 h.0 in
      (it.schema_is, it.others.0 ∙ has.1, it.empty);
}

pub object_step : (old new : State) (r : Result ℕ Error) → ExecutesInside 0 object_text [] old new r → OnOk r (Advances old new (Builds IsHalf IsMade))
object_step old new (Err e) h = tt
object_step old new (Ok count) h = record {
  was_open = λ _. h.1.was_open;
  mode = h.1.mode;
  committed = h.1.committed_is;
  change = λ d has.
      let it = makes object_text half_schema object_table object_is refl made_object_is.0 made_object_is.1 made_object_plain old new count has.0 h.0 in
      (it.schema_is, it.others.0 ∙ has.1, it.others.1.0 ∙ has.2, it.empty);
}

-- ---- the first row of `about`

pub no_rows : {K V : Type 0} (row_of : ℤ → K → V → Row) (IsGood : K → V → Type 0) (m : K → Option V) → ((k : K) → m k ≡ None) → HasRows row_of IsGood [] m
no_rows row_of IsGood m none = record {
  apart = tt;
  sound = λ row h. absurd h;
  complete = λ k v is. absurd (let wrong : None ≡ Some v = sym (none k) ∙ is in cc);
  once = λ i n k v w h. absurd h;
}

pub one_is_not_zero : ◌≢◌ {A = ℕ} 1 0
one_is_not_zero e = cc

pub three_is_not_zero : ◌≢◌ {A = ℕ} 3 0
three_is_not_zero e = cc

module _ (limit : Option ℕ) (db : Trees) (d : List ℕ) (no_about : db 0 ≡ []) (no_record : db 1 ≡ []) (no_object : db 3 ≡ []) where
  pub first_writes : (w : Written) → Inserts (task_of limit about (Blob d ∷ [])) (Values first_terms 4) db (Ok w) → SpellsTables (at_trees w.trees) (about_row 2 d ∷ []) (tables_of no_entries)
  first_writes w h =
      let given = went h in
      let written = went (went given.2).2 in
      let counted = went written.2 in
      let trees : w.trees ≡ written.0 = ap (λ (x : Written). x.trees) (same_value counted.2) ∙ same_value counted.1 in
      let edit : Edit = edit_of db about [] Chosen 0 given.0 in
      let row = about_row 2 d in
      let news : edit.news ≡ row ∷ [] = ap (λ all. numbered Chosen (db 0) (map (λ s. cast_row about (drop 0 s)) all)) given.1.1 ∙ rw (cast_int (pos 1), cast_null, cast_int (pos 2)) refl in
      let applied = one_step store_schema Enforced db written.0 edit (works_put_one 0 (taken_by db edit) edit.news row news) written.1 in
      let at : (n : ℕ) → w.trees n ≡ written.0 n = λ n. ap (λ (ts : Trees). ts n) trees in
      record {
        schema = refl;
        about = at 0 ∙ applied.rows ∙ ap (put_all (db 0)) news ∙ ap (λ l. put_all l (row ∷ [])) no_about;
        heads = subst (λ rs. HasRows head_row IsTextHead rs (tables_of no_entries).heads) (sym (at 1 ∙ applied.tables.1.0 one_is_not_zero ∙ no_record)) (no_rows _ _ (tables_of no_entries).heads (λ id. refl));
        parts = subst (λ rs. HasRows part_row IsTextPart rs (tables_of no_entries).parts) (sym (at 3 ∙ applied.tables.1.1.0 three_is_not_zero ∙ no_object)) (no_rows _ _ (tables_of no_entries).parts (λ at. refl));
      }

module _ (old new : State) (d : List ℕ) (count : ℕ) (has : IsMade [] old.now) (h : Executes first_text (Blob d ∷ []) old new (Ok count)) where
  begins : IsEmpty d new.now
  begins =
      let params = Blob d ∷ [] in
      let command = Insert 0 (Values first_terms 4) in
      let w = runs_as first_text params old new store_schema has.0 command first_is first_plain count h in
      let text = statement_of first_text (understood store_schema first_text) in
      let done = went (subst (λ s. Does old.step_limit (mode_of old) params (record old.now { schema = s }) text None command (Ok (w.tally, new.now))) has.0 w.changed) in
      let now : new.now ≡ at_trees done.0.trees = ap (λ (p : Tally × Database). p.1) (same_value (went (went done.2).2).2) in
      subst (IsEmpty d) (sym now) (first_writes old.step_limit old.now.trees d has.1 has.2 has.3 done.0 done.1)

pub first_step : (old new : State) (d : List ℕ) (r : Result ℕ Error) → ExecutesInside 0 first_text (Blob d ∷ []) old new r → OnOk r (Advances old new (Leads (IsMade []) (IsEmpty d)))
first_step old new d (Err e) h = tt
first_step old new d (Ok count) h = record { was_open = λ _. h.1.was_open; mode = h.1.mode; committed = h.1.committed_is; change = λ has. begins old new d count has h.0 }

-- ---- one after another

pub blank_then : (x y z : Database) → Leads IsBlank (IsBare []) x y → Builds IsBare IsHalf y z → Leads IsBlank (IsHalf []) x z
blank_then x y z p q h = q [] (p h)

pub blank_half_then : (x y z : Database) → Leads IsBlank (IsHalf []) x y → Builds IsHalf IsMade y z → Leads IsBlank (IsMade []) x z
blank_half_then x y z p q h = q [] (p h)

pub built_on : (P Q R : List Row → Database → Type 0) (x y z : Database) → Builds P Q x y → Builds Q R y z → Builds P R x z
built_on P Q R x y z p q rows h = q rows (p rows h)

pub led_on : (P Q R : Database → Type 0) (x y z : Database) → Leads P Q x y → Leads Q R y z → Leads P R x z
led_on P Q R x y z p q h = q (p h)
