-- What the DROP of the old `record` does, and the UPDATE of the version.
use Rattle.std.proofs.Common.{◌≡◌, ℕ, List, [], ◌∷◌, None, Ok, Err, Result, OnOk, refl, sym, ap, subst, ◌∙◌}
use Rattle.sqlite.specs.declared.error.Error.{Error}
use Rattle.sqlite.specs.Order.{Row}
use Rattle.sqlite.specs.Command.TheVariants.{DropTable}
use Rattle.sqlite.specs.Does.{Tally, Does}
use Rattle.sqlite.specs.Effect.{Database}
use Rattle.sqlite.specs.Tree.{Trees}
use Rattle.sqlite.specs.Listing.{understood}
use Rattle.sqlite.specs.State.{State, mode_of, Executes, ExecutesInside}
use Rattle.sqlite.proofs.Callers.{statement_of, runs_as}
use Rattle.fv_store_tables.specs.Tables.{bare_schema}
use Rattle.fv_store_tables.specs.FirstTables.{old_schema}
use Rattle.fv_store_tables.specs.Rows.{HasRows}
use Rattle.fv_store_tables.specs.Stands.{TablesStand, about_row, head_row, part_row, IsTextHead, IsTextPart, tables_of}
use Rattle.fv_store_tables.specs.Steps.{Advances}
use Rattle.fv_store_tables.specs.Creating.{IsBare, IsMade, IsEmpty, no_entries, Builds}
use Rattle.fv_store_tables.specs.Olds.{IsOld, IsVacant, Renews, Empties}
use Rattle.fv_store_tables.proofs.FirstTexts.{drop_record_text, drop_record_is, drop_record_plain, version_text, version_terms, version_means}
use Rattle.fv_store_tables.proofs.RowEdits.{some_none}
use Rattle.fv_store_tables.proofs.Removes.{went, same_value}
use Rattle.fv_store_tables.proofs.Creates.{no_rows}
use Rattle.fv_store_tables.proofs.Redeclares.{renews_about}

-- ---- the DROP

drops : (old new : State) (count : ℕ) → old.now.schema ≡ old_schema → Executes drop_record_text [] old new (Ok count) → (new.now.schema ≡ bare_schema) × (new.now.trees 0 ≡ old.now.trees 0)
drops old new count has h =
    let w = runs_as drop_record_text [] old new old_schema has (DropTable 1) drop_record_is drop_record_plain count h in
    let text = statement_of drop_record_text (understood old_schema drop_record_text) in
    let first = went (subst (λ s. Does old.step_limit (mode_of old) [] (record old.now { schema = s }) text None (DropTable 1) (Ok (w.tally, new.now))) has w.changed) in
    let second = went first.2 in
    let third = went second.2 in
    let fourth = went third.2 in
    let emptied : first.0 ≡ old.now.trees = same_value first.1 in
    let uncounted : second.0 ≡ first.0 = same_value second.1 in
    let now : new.now ≡ fourth.0 = ap (λ (p : Tally × Database). p.1) (same_value fourth.2) in
    (ap (λ (d : Database). d.schema) now ∙ fourth.1.0, ap (λ (d : Database). d.trees 0) now ∙ fourth.1.1.0 ∙ ap (λ (t : Trees). t 0) (uncounted ∙ emptied))

pub drop_record_step : (old new : State) (r : Result ℕ Error) → ExecutesInside 0 drop_record_text [] old new r → OnOk r (Advances old new (Builds IsOld IsBare))
drop_record_step old new (Err e) h = tt
drop_record_step old new (Ok count) h = record {
  was_open = λ _. h.1.was_open;
  mode = h.1.mode;
  committed = h.1.committed_is;
  change = λ rows has. let it = drops old new count has.0 h.0 in (it.0, it.1 ∙ has.1);
}

-- ---- the version

-- tables with no row spell no record
pub made_stands : (rows : List Row) (db : Database) → IsMade rows db → TablesStand db rows no_entries
made_stands rows db made = record {
  schema = made.0;
  about = made.1;
  heads = subst (λ rs. HasRows head_row IsTextHead rs (tables_of no_entries).heads) (sym made.2) (no_rows _ _ (tables_of no_entries).heads (λ id. refl));
  parts = subst (λ rs. HasRows part_row IsTextPart rs (tables_of no_entries).parts) (sym made.3) (no_rows _ _ (tables_of no_entries).parts (λ at. refl));
}

-- where no row is, there is room
vacant : (d : List ℕ) (db : Database) → IsEmpty d db → IsVacant d db
vacant d db empty = (
  empty,
  λ n few. (
    record { few = few; below = λ row there. let it = empty.heads.sound row there in some_none it.value None refl it.known },
    record { few = few; below = λ row there. let it = empty.parts.sound row there in some_none it.value None refl it.known },
  ),
)

pub version_step : (old new : State) (r : Result ℕ Error) → ExecutesInside 0 version_text [] old new r → OnOk r (Advances old new Renews)
version_step old new (Err e) h = tt
version_step old new (Ok count) h = record {
  was_open = λ _. h.1.was_open;
  mode = h.1.mode;
  committed = h.1.committed_is;
  change = λ d made.
      let it = renews_about version_terms [] 1 2 d d refl version_text version_means old new count (tables_of no_entries) (made_stands (about_row 1 d ∷ []) old.now made) h.0 in
      vacant d new.now it.0;
}

-- ---- one after another

pub renewed_then : (x y z : Database) → Builds IsOld IsMade x y → Renews y z → Empties x z
renewed_then x y z p q d has = q d (p (about_row 1 d ∷ []) has)
