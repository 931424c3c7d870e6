use Rattle.std.proofs.Common.{ℕ, take}
use Rattle.fv_graph.specs.Graph.{IsIn, next_of}
use Rattle.fv_declare_schema.specs.Marked.{ReachesMarked}
use Rattle.fv_declare_schema.proofs.marking.MarkingCombine.combine.Given as goal

abbrev pub invariant-loop-next : goal.invariant-loop-next
invariant-loop-next l = (k : ℕ) → IsIn (take l.next-index l.next-items) k → ReachesMarked (next_of l.self.edges.now) l.self.marked.now k → ⊥
