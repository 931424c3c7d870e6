-- What an UPDATE of the row of `about` does: the row has another version or other declarations, and all other rows stay.
use Rattle.std.proofs.Common.{◌≡◌, inl, inr, ℕ, pos, List, [], ◌∷◌, Option, None, Ok, Err, Result, OnOk, refl, sym, ap, subst, ◌∙◌}
use Rattle.sqlite.specs.declared.types.Value.TheVariants.{Null, Int, Blob}
use Rattle.sqlite.specs.declared.error.Error.{Error}
use Rattle.sqlite.specs.Order.{Row}
use Rattle.sqlite.specs.Command.TheVariants.{Update}
use Rattle.sqlite.specs.Edit.{Edit, edit_of, without_all, put_all, taken_by}
use Rattle.sqlite.specs.Rowids.TheVariants.{Given}
use Rattle.sqlite.specs.Query.{Query, output, IsAnswer}
use Rattle.sqlite.specs.Program.{overlay}
use Rattle.sqlite.specs.Term.{Term}
use Rattle.sqlite.specs.Does.{Tally, Does}
use Rattle.sqlite.specs.Rows.{Written}
use Rattle.sqlite.specs.Rows.{Updates as Runs}
use Rattle.sqlite.specs.Tree.{Trees, IsTable}
use Rattle.sqlite.specs.Listing.{understood}
use Rattle.sqlite.specs.Effect.{Database}
use Rattle.sqlite.specs.State.{State, mode_of, Executes, ExecutesInside}
use Rattle.sqlite.proofs.Callers.{statement_of, runs_as, one_step}
use Rattle.sqlite_schema.specs.declared.schema.Keys.TheVariants.{Enforced}
use Rattle.sqlite_rules.specs.Action.{Writes}
use Rattle.sqlite_rules.specs.Lists.{Has}
use Rattle.sqlite_rules.specs.Calls.{ids_of}
use Rattle.fv_store_tables.specs.Tables.{about, store_schema}
use Rattle.fv_store_tables.specs.Rows.{HasRows}
use Rattle.fv_store_tables.specs.Stands.{Maps, about_row, head_row, part_row, IsTextHead, IsTextPart, SpellsTables, tables_of}
use Rattle.fv_store_tables.specs.About.{Redeclares}
use Rattle.fv_store_tables.specs.Steps.{Advances}
use Rattle.fv_store_tables.proofs.Texts.{RenewMeans, one_table, declare_text, declare_terms, declare_means}
use Rattle.fv_store_tables.proofs.RowEdits.{has_itself}
use Rattle.fv_store_tables.proofs.OneTable.{one_shown}
use Rattle.fv_store_tables.proofs.Cascade.{works_put_one}
use Rattle.fv_store_tables.proofs.Inserts.{at_trees, in_place, task_of, cast_null}
use Rattle.fv_store_tables.proofs.Removes.{went, same_value}
use Rattle.fv_store_tables.proofs.Updates.{cast_int}
use Rattle.fv_store_tables.proofs.Creates.{one_is_not_zero, three_is_not_zero}
use Rattle.fv_store_tables.proofs.InPlace.{same_rooms}

-- the row of `about` is taken out, and this one put in
abbrev pub renewed : ℕ → List ℕ → Edit
renewed version declarations = record { table = about; gone = pos 1 ∷ []; news = about_row version declarations ∷ [] }

-- the terms show the rowid and the new row for the old one
abbrev pub Renews : List Term → Row → Row → ℕ → List ℕ → Type 0
Renews terms given row version declarations = (output (one_table 0 [] terms) (given ∷ row ∷ [])).1 ≡ Int (pos 1) ∷ about_row version declarations

module _ (terms : List Term) (given : Row) (v version : ℕ) (d declarations : List ℕ) (renews : Renews terms given (about_row v d) version declarations) where
  abbrev query : Query
  query = one_table 0 [] terms

  pub renewing : (db : Trees) → db 0 ≡ about_row v d ∷ [] → (rows : List Row) → IsAnswer query (overlay db []) given rows → edit_of db about (ids_of rows) Given 1 rows ≡ renewed version declarations
  renewing db has rows a =
      let row = about_row v d in
      let there : Has (db 0) row = subst (λ l. Has l row) (sym has) (inl refl) in
      let shown = one_shown 0 [] terms [] (overlay db []) given rows a (subst IsTable (sym has) (tt, tt)) row there refl
      (λ other h _. elim (subst (λ l. Has l other) has h) [ inl is ↦ is | inr never ↦ absurd never ]) in
      ap (λ rs. edit_of db about (ids_of rs) Given 1 rs) (shown ∙ ap (λ (r : Row). r ∷ []) renews) ∙ rw (cast_int (pos 1), cast_null, cast_int (pos version)) refl

  -- no row of `about` is left beside the new one
  pub none_left : (db : Trees) → db 0 ≡ about_row v d ∷ [] → without_all (db 0) (pos 1 ∷ []) ≡ []
  none_left db has = ap (λ l. without_all l (pos 1 ∷ [])) has ∙ rw (has_itself (pos 1) (about_row v d) refl) refl

  module _ (limit : Option ℕ) (db : Trees) (t : Maps) (spelled : SpellsTables (at_trees db) (about_row v d ∷ []) t) where
    pub renew_writes : (w : Written) → Runs (task_of limit about given) (record { lets = []; body = query }) given db (Ok w)
        → SpellsTables (at_trees w.trees) (about_row version declarations ∷ []) t × (w.trees 1 ≡ db 1) × (w.trees 3 ≡ db 3)
    renew_writes w h =
        let found = went h in
        let written = went found.2 in
        let made = same_value written.2 in
        let edit = renewing db spelled.about found.0 (found.1.answer Null) in
        let row = about_row version declarations in
        let applied = one_step store_schema Enforced db written.0 (renewed version declarations) (works_put_one 0 (taken_by db (renewed version declarations)) (row ∷ []) row refl)
        (subst (λ e. Writes store_schema Enforced db e (Ok written.0)) edit written.1) in
        let at : (n : ℕ) → w.trees n ≡ written.0 n = λ n. ap (λ (x : Written). x.trees n) made in
        let one = at 1 ∙ applied.tables.1.0 one_is_not_zero in
        let three = at 3 ∙ applied.tables.1.1.0 three_is_not_zero in (
          record {
            schema = refl;
            about = at 0 ∙ applied.rows ∙ ap (λ l. put_all l (row ∷ [])) (none_left db spelled.about);
            heads = subst (λ rs. HasRows head_row IsTextHead rs t.heads) (sym one) spelled.heads;
            parts = subst (λ rs. HasRows part_row IsTextPart rs t.parts) (sym three) spelled.parts;
          },
          one,
          three,
        )

  pub renews_about : (text : List ℕ) → RenewMeans text terms given → (old new : State) (count : ℕ) (t : Maps) → SpellsTables old.now (about_row v d ∷ []) t → Executes text given old new (Ok count)
      → SpellsTables new.now (about_row version declarations ∷ []) t × (new.now.trees 1 ≡ old.now.trees 1) × (new.now.trees 3 ≡ old.now.trees 3)
  renews_about text means old new count t spelled h =
      let command = Update 0 (record { lets = []; body = query }) in
      let w = runs_as text given old new store_schema spelled.schema command means.is means.plain count h in
      let source = statement_of text (understood store_schema text) in
      let done = went (subst (λ s. Does old.step_limit (mode_of old) given (record old.now { schema = s }) source None command (Ok (w.tally, new.now))) spelled.schema w.changed) in
      let now : new.now ≡ at_trees done.0.trees = ap (λ (p : Tally × Database). p.1) (same_value (went (went done.2).2).2) in
      subst (λ (b : Database). SpellsTables b (about_row version declarations ∷ []) t × (b.trees 1 ≡ old.now.trees 1) × (b.trees 3 ≡ old.now.trees 3)) (sym now)
      (renew_writes old.step_limit old.now.trees t (in_place old.now (about_row v d ∷ []) t spelled) done.0 done.1)

pub declare_step : (old new : State) (declarations : List ℕ) (r : Result ℕ Error) → ExecutesInside 0 declare_text (Blob declarations ∷ []) old new r → OnOk r (Advances old new (Redeclares declarations))
declare_step old new declarations (Err e) h = tt
declare_step old new declarations (Ok count) h = record {
  was_open = λ _. h.1.was_open;
  mode = h.1.mode;
  committed = h.1.committed_is;
  change = λ d m stands.
      let it = renews_about declare_terms (Blob declarations ∷ []) 2 2 d declarations refl declare_text (declare_means declarations) old new count (tables_of m) stands h.0 in
      (it.0, same_rooms old.now new.now it.1 it.2);
}
