use Rattle.std.proofs.Common.{◌≡◌, ◌++◌, map, drop, false}
use Rattle.fv_bundle.specs.TypesView.{types_view}
use Rattle.fv_declare_judging.specs.Conditions.{unknown_root}
use Rattle.fv_declare_judging.specs.Schemas.{form_declared, form_grouped}
use Rattle.fv_declare_draft.specs.DraftViews.{form_view}
use Rattle.fv_datum.specs.EntryNames.{names_of}
use Rattle.fv_declare_schema.specs.SchemaView.{forms_view, form_groups_view}
use Rattle.fv_declare_judging.proofs.build.forms_for.Given as goal

abbrev pub invariant-loop-form : goal.invariant-loop-form
invariant-loop-form l = record {
  names : names_of l.declared.entries ++ map (λ f. f.name.now) (drop l.form-index l.forms) ≡ map (λ f. f.name.now) l.forms;
  made : forms_view (types_view l.types) l.declared ++ map (λ f. form_declared (form_view f)) (drop l.form-index l.forms) ≡ map (λ f. form_declared (form_view f)) l.forms;
  grouped : form_groups_view l.declared ++ map (λ f. form_grouped l.groups (form_view f)) (drop l.form-index l.forms) ≡ map (λ f. form_grouped l.groups (form_view f)) l.forms;
  known : unknown_root (types_view l.types) (map form_view (drop l.form-index l.forms)) ≡ false;
}
