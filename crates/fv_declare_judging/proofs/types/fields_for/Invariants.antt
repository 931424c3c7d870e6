use Rattle.std.proofs.Common.{◌≡◌, ◌++◌, map, drop}
use Rattle.fv_bundle.specs.Types.{fields_view}
use Rattle.fv_declare_judging.specs.Types.{field_declared}
use Rattle.fv_declare_draft.specs.DraftViews.{field_view}
use Rattle.fv_datum.specs.EntryNames.{names_of}
use Rattle.fv_declare_judging.proofs.types.fields_for.Given as goal

abbrev pub invariant-loop-field : goal.invariant-loop-field
invariant-loop-field l = record {
  names : names_of l.uses.entries ++ map (λ f. f.name.now) (drop l.field-index l.fields) ≡ map (λ f. f.name.now) l.fields;
  made : fields_view l.uses ++ map (λ f. field_declared (field_view f)) (drop l.field-index l.fields) ≡ map (λ f. field_declared (field_view f)) l.fields;
}
