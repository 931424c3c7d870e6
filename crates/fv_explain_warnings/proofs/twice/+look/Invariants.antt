use Rattle.std.proofs.Common.{◌+◌, ◌*◌}
use Rattle.fv_explain_warnings.proofs.twice.+look.Given as goal

abbrev pub decreases-look : goal.decreases-look
decreases-look g l = 2 * l.depth

abbrev pub decreases-look_at_items : goal.decreases-look_at_items
decreases-look_at_items g l = 2 * l.depth + 1

abbrev pub decreases-look_at_members : goal.decreases-look_at_members
decreases-look_at_members g l = 2 * l.depth + 1
