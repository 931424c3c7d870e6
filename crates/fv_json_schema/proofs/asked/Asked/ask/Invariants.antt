use Rattle.fv_json_schema.specs.Asked.{AddsFirst}
use Rattle.fv_json_schema.proofs.asked.Asked.ask.Given as goal

abbrev pub invariant-loop-number : goal.invariant-loop-number
invariant-loop-number l = AddsFirst l.initial.self l.self l.occurrence l.number
