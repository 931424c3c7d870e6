use Rattle.fv_path.proofs.Joined.{text_same}
use Rattle.fv_path.proofs.laws.text_is_injective.Goals as goal

pub returns : goal.returns
returns c = text_same c.args.left.now c.args.right.now c.nodes-left.ensures.path c.nodes-right.ensures.path
