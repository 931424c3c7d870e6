use Rattle.std.proofs.Common.{ℕ, ◌<◌, take, get_or}
use Rattle.fv_graph.specs.Graph.{IsIn}
use Rattle.fv_message.proofs.lengths.first_above.Given as goal

abbrev pub invariant-loop-place : goal.invariant-loop-place
invariant-loop-place l = (i : ℕ) → IsIn (take l.place-index l.places) i → l.limit < get_or l.numbers i 0 → ⊥
