use Rattle.std.proofs.Common.{map}
use Rattle.fv_message.specs.Template.{plain, escaped}
use Rattle.fv_message.proofs.Becoming.{become_plain}
use Rattle.fv_message.proofs.Pieces.{escaped_whole}
use Rattle.fv_message.proofs.Spelled.{spelled_read}
use Rattle.fv_message.proofs.laws.plain_text_stays.Goals as goal

pub returns-clause-unescaped : goal.returns-clause-unescaped
returns-clause-unescaped c = λ ms attributes template text spelled. (map plain text, spelled, become_plain ms attributes text)

pub returns-clause-escaped : goal.returns-clause-escaped
returns-clause-escaped c = λ text. (spelled_read (escaped text) (map plain text)).0 (escaped_whole text)
