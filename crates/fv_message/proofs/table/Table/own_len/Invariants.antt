use Rattle.std.proofs.Common.{◌≡◌, ◌+◌, ◌≤◌, List, length}
use denote.Text.{Utf8}
use denote.Shadow.{shadow}
use Rattle.fv_message.specs.Measured.{own_bytes}
use Rattle.fv_message.specs.Numbers.{text_at}
use Rattle.fv_message.specs.Template.{Piece}
use Rattle.fv_message.proofs.Seen.{Seen}
use Rattle.fv_message.proofs.table.Table.own_len.Given as goal

abbrev pub invariant-loop-part : goal.invariant-loop-part
invariant-loop-part l =
    shadow (Utf8 l.rest) × (seen : List Piece) × Seen (text_at l.self l.key) seen l.rest
    × (l.len ≡ own_bytes l.self seen) × (l.len + length l.rest ≤ length l.initial.rest)

abbrev pub decreases-loop-part : goal.decreases-loop-part
decreases-loop-part l = length l.rest
