use Rattle.std.proofs.Common.{◌≡◌, length, map, take}
use Rattle.std.specs.List.{concat}
use Rattle.fv_graph.specs.Graph.{next_of}
use Rattle.fv_graph.specs.Recursion.{value}
use Rattle.fv_declare_schema.specs.Groups.{ranked}
use Rattle.fv_declare_schema.specs.Marked.{flag_of}
use Rattle.fv_declare_schema.specs.Once.{once}
use Rattle.fv_declare_schema.specs.Tables.{indices}
use Rattle.fv_declare_schema.proofs.groups.RankingCombine.combine.Given as goal

abbrev pub invariant-loop-next : goal.invariant-loop-next
invariant-loop-next l =
    indices l.ranks.items
    ≡ once (concat (map (λ j. value (ranked (flag_of l.self.sequences.now)) (next_of l.self.edges.now) (length l.self.edges.now) j) (take l.next-index l.next-items)))
