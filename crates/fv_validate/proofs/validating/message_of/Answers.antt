use Rattle.fv_constraint_tree.specs.Views.{node_view}
use Rattle.fv_validate.proofs.Reports.{message_made}
use Rattle.fv_validate.proofs.validating.message_of.Goals as goal

pub returns-in-Some-clause-made : goal.returns-in-Some-clause-made
returns-in-Some-clause-made c =
    let n = node_view c.in-Some.node.now in
    rw c.in-Some.is (message_made c.args.messages.now n.attributes n.message c.text.result (rw c.message.ensures at c.text.ensures))
