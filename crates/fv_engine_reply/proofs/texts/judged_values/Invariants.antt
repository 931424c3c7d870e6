use Rattle.std.proofs.Common.{◌≡◌, map, take}
use Rattle.serde_json.specs.View.{view as json_view}
use Rattle.fv_validate.specs.ViolationView.{judged_view}
use Rattle.fv_engine_reply.specs.Texts.{judged_json}
use Rattle.fv_engine_reply.proofs.texts.judged_values.Given as goal

abbrev pub invariant-loop-judged : goal.invariant-loop-judged
invariant-loop-judged l = map json_view l.values.items ≡ map judged_json (map judged_view (take l.judged-index l.records))
