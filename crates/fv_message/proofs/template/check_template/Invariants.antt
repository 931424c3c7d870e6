use Rattle.std.proofs.Common.{List, length}
use denote.Text.{Utf8}
use denote.Shadow.{shadow}
use Rattle.fv_message.specs.Template.{Piece}
use Rattle.fv_message.proofs.Seen.{Seen}
use Rattle.fv_message.proofs.template.check_template.Given as goal

abbrev pub invariant-loop-behind : goal.invariant-loop-behind
invariant-loop-behind l = shadow (Utf8 l.rest) × (seen : List Piece) × Seen l.template seen l.rest

abbrev pub decreases-loop-behind : goal.decreases-loop-behind
decreases-loop-behind l = length l.rest
