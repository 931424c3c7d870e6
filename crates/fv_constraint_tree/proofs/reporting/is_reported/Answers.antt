use Rattle.fv_constraint_tree.proofs.Entries.{all_front, and_right}
use Rattle.fv_constraint_tree.proofs.reporting.is_reported.Goals as goal

pub any_refuses-requires-clause-fit : goal.any_refuses-requires-clause-fit
any_refuses-requires-clause-fit g c = all_front _ c.args.node.now.below _ (and_right _ _ c.requires.fit)
