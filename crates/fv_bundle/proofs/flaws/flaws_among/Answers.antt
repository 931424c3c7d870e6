use Rattle.fv_datum.proofs.Values.{members_ascend}
use Rattle.fv_bundle.proofs.flaws.flaws_among.Goals as goal

pub returns-clause-ascending : goal.returns-clause-ascending
returns-clause-ascending c = members_ascend c.args.given.now.entries c.iter-name-items.ensures.ordered
