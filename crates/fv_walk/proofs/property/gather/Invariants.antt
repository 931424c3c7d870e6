use Rattle.std.proofs.Common.{◌↔◌, map, take}
use Rattle.fv_graph.specs.Graph.{IsIn}
use Rattle.fv_declare_schema.specs.Tables.{indices}
use Rattle.fv_bundle.specs.Views.{object_view}
use Rattle.fv_walk_traces.specs.Violations.{Violation}
use Rattle.fv_walk.specs.FailureView.{failure_view}
use Rattle.fv_walk.specs.Ranks.{IsToldFor}
use Rattle.fv_walk.proofs.property.gather.Given as goal

abbrev pub invariant-loop-group : goal.invariant-loop-group
invariant-loop-group g l =
    (v : Violation) → IsIn (map failure_view l.failures.items) v ↔ IsToldFor g.R.RuleSet.meaning l.rulebook l.now (object_view l.object) l.field (take l.group-index (indices l.asked)) v
