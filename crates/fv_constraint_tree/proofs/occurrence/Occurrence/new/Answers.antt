use Rattle.fv_constraint_tree.proofs.Entries.{preorder_again}
use Rattle.fv_constraint_tree.proofs.occurrence.Occurrence.new.Goals as goal

pub invariant_of-result : goal.invariant_of-result
invariant_of-result c = preorder_again _ _ _ c.requires

pub returns : goal.returns
returns c = preorder_again _ _ _ c.requires
