use Rattle.std.proofs.Common.{◌≡◌, map, drop}
use Rattle.serde_json.specs.View.{items_view}
use Rattle.fv_datum.specs.Members.{listed, each_some}
use Rattle.fv_datum.proofs.Fronts.{with_front}
use Rattle.fv_engine_command.specs.CommandView.{part_view}
use Rattle.fv_engine_command.specs.Commands.{part_of}
use Rattle.fv_engine_command.proofs.part.each_part.Given as goal

abbrev pub invariant-loop-value : goal.invariant-loop-value
invariant-loop-value l = with_front (map part_view l.parts.items) (each_some part_of (listed (items_view (drop l.value-index l.values)))) ≡ each_some part_of (listed (items_view l.values))
