use Rattle.std.proofs.Common.{◌≡◌, ◌<◌, ℕ, length}
use Rattle.fv_graph.specs.Graph.{next_of}
use Rattle.fv_message.specs.Measured.{edges_at}
use Rattle.fv_message.proofs.table.Table.edges.Given as goal

abbrev pub invariant-loop-key : goal.invariant-loop-key
invariant-loop-key l = (length l.edges.items ≡ l.key) × ((i : ℕ) → i < l.key → next_of l.edges.items i ≡ edges_at l.self i)
