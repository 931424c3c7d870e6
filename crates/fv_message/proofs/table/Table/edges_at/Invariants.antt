use Rattle.std.proofs.Common.{◌≡◌, List, length}
use denote.Text.{Utf8}
use denote.Shadow.{shadow}
use Rattle.fv_message.specs.Numbers.{keys_in, text_at}
use Rattle.fv_message.specs.Template.{Piece}
use Rattle.fv_message.proofs.Seen.{Seen}
use Rattle.fv_message.proofs.table.Table.edges_at.Given as goal

abbrev pub invariant-loop-part : goal.invariant-loop-part
invariant-loop-part l =
    shadow (Utf8 l.rest) × (seen : List Piece) × Seen (text_at l.self l.key) seen l.rest × (l.edges.items ≡ keys_in l.self seen)

abbrev pub decreases-loop-part : goal.decreases-loop-part
decreases-loop-part l = length l.rest
