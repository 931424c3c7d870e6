use Rattle.fv_message.proofs.Becoming.{full_is, full_made}
use Rattle.fv_message.proofs.Circles.{circular_of}
use Rattle.fv_message.proofs.laws.full_text_is_made.Goals as goal

pub returns-clause-one : goal.returns-clause-one
returns-clause-one c = λ ms attributes template full h. full_is ms attributes template full h

pub returns-clause-made : goal.returns-clause-made
returns-clause-made c = λ ms attributes template each none is. full_made ms attributes each (λ cyclic. none (circular_of ms cyclic)) template is
