use Rattle.std.proofs.Common.{◌≡◌, map, take}
use Rattle.serde_json.specs.View.{view as json_view}
use Rattle.fv_engine_reply.specs.Texts.{violation_json}
use Rattle.fv_validate.specs.ViolationView.{violation_view}
use Rattle.fv_engine_reply.proofs.texts.violation_values.Given as goal

abbrev pub invariant-loop-violation : goal.invariant-loop-violation
invariant-loop-violation l = map json_view l.values.items ≡ map violation_json (map violation_view (take l.violation-index l.violations))
