-- No rule of the database refuses the DROP of the old `record`, nor the UPDATE of the version.
use Rattle.std.proofs.Common.{◌≡◌, inl, inr, ℕ, List, [], ◌∷◌, Option, Some, None, Result, Ok, Err, IfErr, refl, subst}
use Rattle.sqlite.specs.declared.error.Error.{Error}
use Rattle.sqlite.specs.Order.{Row}
use Rattle.sqlite.specs.Command.TheVariants.{DropTable}
use Rattle.sqlite.specs.Does.{Does, Leaves}
use Rattle.sqlite.specs.Listing.{understood}
use Rattle.sqlite.specs.Schema.{Schema}
use Rattle.sqlite.specs.State.{State, ExecutesInside, mode_of}
use Rattle.sqlite.specs.Tree.{Trees}
use Rattle.sqlite.proofs.Callers.{statement_of}
use Rattle.sqlite_schema.specs.Rules.{Refers}
use Rattle.sqlite_schema.specs.declared.schema.Among.TheVariants.{All}
use Rattle.sqlite_rules.proofs.ListLemmas.{all_from}
use Rattle.fv_store_tables.specs.Tables.{bare_schema}
use Rattle.fv_store_tables.specs.FirstTables.{old_schema}
use Rattle.fv_store_tables.specs.Stands.{about_row, tables_of}
use Rattle.fv_store_tables.specs.Causes.{IsExcused, IsShortAbout}
use Rattle.fv_store_tables.specs.Creating.{IsMade, no_entries}
use Rattle.fv_store_tables.specs.Olds.{IsOld}
use Rattle.fv_store_tables.proofs.FirstTexts.{drop_record_text, drop_record_is, drop_record_plain, drop_record_whole, version_text, version_terms, version_means}
use Rattle.fv_store_tables.proofs.Objects.{owned}
use Rattle.fv_store_tables.proofs.Refusals.{run_cause}
use Rattle.fv_store_tables.proofs.Writes.{never_ok}
use Rattle.fv_store_tables.proofs.Migrates.{made_stands}
use Rattle.fv_store_tables.proofs.RedeclareCauses.{renew_cause}

-- ---- the DROP

no_reference : (trees : Trees) → Refers All old_schema trees × Refers All bare_schema trees
no_reference trees = ((all_from _ (trees 0) (λ row there. refl), (all_from _ (trees 1) (λ row there. refl), tt)), (all_from _ (trees 0) (λ row there. refl), tt))

never_left : (schema : Schema) (db : Trees) (stop : Option Error) → Leaves schema db (λ _. ⊥) (Err stop) → ⊥
never_left schema db None h = h
never_left schema db (Some e) h = h

never_dropped : (s : State) (trees : Trees) (sql : List ℕ) (stop : Option Error) → Does s.step_limit (mode_of s) [] (record { schema = old_schema; trees = trees }) sql None (DropTable 1) (Err stop) → ⊥
never_dropped s trees sql stop (inl (st, emptied, same)) = never_ok emptied
never_dropped s trees sql stop (inr (a, emptied, inl (st, counted, same))) = never_ok counted
never_dropped s trees sql stop (inr (a, emptied, inr (b, counted, inl (st, tested, same)))) = tested.0 (no_reference b)
never_dropped s trees sql stop (inr (a, emptied, inr (b, counted, inr (c, tested, inl (st, leaves, same))))) = never_left bare_schema b st leaves
never_dropped s trees sql stop (inr (a, emptied, inr (b, counted, inr (c, tested, inr (e, leaves, wrong))))) = never_ok wrong

pub drop_record_cause : (old new : State) (r : Result ℕ Error) → ExecutesInside 0 drop_record_text [] old new r → IfErr r (λ e. (rows : List Row) → IsOld rows old.now → IsExcused old new e)
drop_record_cause old new (Ok count) h = tt
drop_record_cause old new (Err e) h = λ rows has refused.
    let text = statement_of drop_record_text (understood old_schema drop_record_text) in
    run_cause drop_record_text [] old new old_schema has.0 drop_record_plain drop_record_whole (DropTable 1) drop_record_is tt
    (λ stop does. never_dropped old old.now.trees text stop (subst (λ sc. Does old.step_limit (mode_of old) [] (record old.now { schema = sc }) text None (DropTable 1) (Err stop)) has.0 does)) e h refused

-- ---- the version

pub version_cause : (old new : State) → old.step_limit ≡ None → (r : Result ℕ Error) → ExecutesInside 0 version_text [] old new r
    → IfErr r (λ e. (d : List ℕ) → IsMade (about_row 1 d ∷ []) old.now → IsShortAbout d → IsExcused old new e)
version_cause old new none (Ok count) h = tt
version_cause old new none (Err e) h = λ d made short.
    renew_cause version_terms [] 1 2 d d refl version_text version_means short old new none (tables_of no_entries) (made_stands (about_row 1 d ∷ []) old.now made) (owned no_entries) e h
