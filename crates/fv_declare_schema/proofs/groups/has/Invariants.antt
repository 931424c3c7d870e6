use Rattle.std.proofs.Common.{◌≡◌, take, false}
use Rattle.fv_graph.specs.Graph.{mem}
use Rattle.fv_declare_schema.specs.Tables.{indices}
use Rattle.fv_declare_schema.proofs.groups.has.Given as goal

abbrev pub invariant-loop-other : goal.invariant-loop-other
invariant-loop-other l = mem (indices (take l.other-index l.groups)) l.group.index ≡ false
