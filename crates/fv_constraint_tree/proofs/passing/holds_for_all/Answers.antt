use Rattle.std.proofs.Common.{ap}
use Rattle.fv_datum.specs.View.{view}
use Rattle.fv_constraint_tree.specs.Says.{of_datum, test_says}
use Rattle.fv_constraint_tree.specs.Views.{test_view}
use Rattle.fv_constraint_tree.specs.declared.node.Test.{Test}
use Rattle.fv_constraint_tree.proofs.Passed.{holds_of_each}
use Rattle.fv_constraint_tree.proofs.passing.holds_for_all.Goals as goal

pub returns-in-ObjectRule : goal.returns-in-ObjectRule
returns-in-ObjectRule c =
    λ m is.
    holds_of_each m c.args.now c.args.data.now c.args.node.now (λ d. ap (λ (t : Test). test_says m c.args.now c.args.node.now.attributes (test_view t) (of_datum (view d))) c.in-ObjectRule.is)

pub returns-in-Nothing : goal.returns-in-Nothing
returns-in-Nothing c =
    λ m is.
    holds_of_each m c.args.now c.args.data.now c.args.node.now (λ d. ap (λ (t : Test). test_says m c.args.now c.args.node.now.attributes (test_view t) (of_datum (view d))) c.in-Nothing.is)
