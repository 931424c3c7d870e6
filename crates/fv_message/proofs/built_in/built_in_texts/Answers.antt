use Rattle.std.proofs.Common.{refl}
use Rattle.fv_message.specs.BuiltIn.{built_in_texts}
use Rattle.fv_message.proofs.built_in.built_in_texts.Goals as goal

pub returns : goal.returns
unfolding built_in_texts
returns c = refl
