use Rattle.fv_message.proofs.Spelled.{spelled_read}
use Rattle.fv_message.proofs.laws.pieces_are_spelled.Goals as goal

pub returns : goal.returns
returns c = λ text ps. spelled_read text ps
