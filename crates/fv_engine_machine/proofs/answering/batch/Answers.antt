use Rattle.std.proofs.Common.{map}
use Rattle.std.proofs.lemmas.Int.{to_z-of_z}
use mir.Syntax.{w64}
use Rattle.fv_store.specs.Stock.{stock_state as state}
use Rattle.fv_engine_command.specs.CommandView.{part_view}
use Rattle.fv_engine_command.specs.Commands.{batch}
use Rattle.fv_engine_machine.proofs.Becoming.{weaker}
use Rattle.fv_engine_machine.proofs.Changes.{in_batch}
use Rattle.fv_engine_machine.proofs.answering.batch.Goals as goal

pub returns-clause-becomes : goal.returns-clause-becomes
returns-clause-becomes g c = weaker (state g.S.Store) _ _ _ _ (λ x y changed. changed (batch (map part_view c.args.parts.now)) (in_batch (map part_view c.args.parts.now)))
    (rw (to_z-of_z w64 c.args.now c.ranges.now) at c.change.ensures.becomes)
