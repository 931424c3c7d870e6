use Rattle.std.proofs.Common.{◌≡◌, List, length}
use denote.Text.{Utf8}
use denote.Shadow.{shadow}
use Rattle.fv_datum.specs.Attributes.{Attributes}
use Rattle.fv_message.specs.Expanded.{expansion_text}
use Rattle.fv_message.specs.Evaluated.{full_pieces}
use Rattle.fv_message.specs.Template.{Piece}
use Rattle.fv_message.proofs.Seen.{Seen}
use Rattle.fv_message.proofs.expanding.expand.Given as goal

abbrev pub invariant-loop-part : goal.invariant-loop-part
invariant-loop-part l =
    shadow (Utf8 l.rest) × (seen : List Piece) × Seen l.template seen l.rest
    × ((attributes : Attributes) → expansion_text attributes l.expansion ≡ full_pieces l.messages attributes seen)

abbrev pub decreases-loop-part : goal.decreases-loop-part
decreases-loop-part l = length l.rest
