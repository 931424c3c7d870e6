use Rattle.std.proofs.Common.{◌≡◌, map, drop}
use Rattle.serde_json.specs.View.{items_view}
use Rattle.fv_datum.specs.Members.{listed, each_some}
use Rattle.fv_declare_definition.specs.Written.{composing_of}
use Rattle.fv_declare_definition.specs.DefinitionViews.{composing_view}
use Rattle.fv_datum.proofs.Fronts.{with_front}
use Rattle.fv_declare_definition.proofs.composing.composings_in.Given as goal

abbrev pub invariant-loop-value : goal.invariant-loop-value
invariant-loop-value l = with_front (map composing_view l.composings.items) (each_some composing_of (listed (items_view (drop l.value-index l.values)))) ≡ each_some composing_of (listed (items_view l.values))
