use Rattle.std.proofs.Common.{◌≡◌, ◌++◌, map, drop}
use Rattle.fv_bundle.specs.Types.{declared_view}
use Rattle.fv_declare_judging.specs.Types.{type_declared}
use Rattle.fv_declare_draft.specs.DraftViews.{type_view}
use Rattle.fv_datum.specs.EntryNames.{names_of}
use Rattle.fv_declare_judging.proofs.types.types_for.Given as goal

abbrev pub invariant-loop-given : goal.invariant-loop-given
invariant-loop-given l = record {
  names : names_of l.declared.entries ++ map (λ t. t.name.now) (drop l.given-index l.types) ≡ map (λ t. t.name.now) l.types;
  made : declared_view l.declared ++ map (λ t. type_declared (type_view t)) (drop l.given-index l.types) ≡ map (λ t. type_declared (type_view t)) l.types;
}
