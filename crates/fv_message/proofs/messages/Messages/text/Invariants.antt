use Rattle.std.proofs.Common.{◌≡◌, List, length, string_bytes}
use denote.Text.{Utf8}
use denote.Shadow.{shadow}
use Rattle.fv_message.specs.Evaluated.{full_pieces}
use Rattle.fv_message.specs.Template.{Piece}
use Rattle.fv_message.proofs.Seen.{Seen}
use Rattle.fv_message.proofs.messages.Messages.text.Given as goal

abbrev pub invariant-loop-part : goal.invariant-loop-part
invariant-loop-part l =
    shadow (Utf8 l.rest) × (seen : List Piece) × Seen l.template seen l.rest
    × (string_bytes l.text ≡ full_pieces l.self l.attributes seen)

abbrev pub decreases-loop-part : goal.decreases-loop-part
decreases-loop-part l = length l.rest
