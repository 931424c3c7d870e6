use Rattle.std.proofs.Common.{◌≡◌, ◌<◌, ℕ, length, get_or, Bool, Vec}
use Rattle.std.specs.declared.alloc.Global.{Global}
use Rattle.fv_graph.specs.Graph.{next_of}
use Rattle.fv_declare_schema.specs.Marked.{AreLeading}
use Rattle.fv_declare_schema.proofs.acyclic.Acyclic.leading.Given as goal

abbrev pub invariant-loop-node : goal.invariant-loop-node
invariant-loop-node l = record {
  each : length l.rows.items ≡ l.node;
  leading : (j : ℕ) (d : Vec Bool Global) → j < l.node → AreLeading (next_of l.self) (length l.self) (get_or l.rows.items j d).items j;
}
