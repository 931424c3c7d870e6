use Rattle.std.proofs.lemmas.Result.{IfOk-weaker}
use Rattle.std.proofs.lemmas.Int.{to_z-of_z}
use mir.Syntax.{w64}
use Rattle.fv_bundle.specs.Views.{object_view}
use Rattle.fv_constraint_tree.specs.Nodes.{Node}
use Rattle.fv_constraint_tree.specs.Says.{of_object, refuses}
use Rattle.fv_constraint_tree.proofs.Laws.{empty_is}
use Rattle.fv_constraint_tree.proofs.reporting.report_object.Goals as goal

pub returns-clause-some : goal.returns-clause-some
returns-clause-some g c =
    IfOk-weaker c.violated.result _ _
    (λ v is. empty_is (λ (n : Node). n.single) (refuses g.R.RuleSet.meaning c.args.now (of_object (object_view c.args.object.now))) 0 c.args.occurrence.now v.items (rw (to_z-of_z w64 c.args.now c.ranges.now) at is)) c.violated.ensures
