use Rattle.std.proofs.Common.{◌≡◌, drop}
use Rattle.std.specs.List.{list_any}
use Rattle.fv_graph.specs.Graph.{mem}
use Rattle.fv_declare_schema.specs.Tables.{indices}
use Rattle.fv_local.specs.Below.{groups_at}
use Rattle.fv_local.proofs.standing.stands_for_any.Given as goal

abbrev pub invariant-loop-other : goal.invariant-loop-other
invariant-loop-other l =
    list_any (mem (groups_at l.groups l.redefined l.group.index)) (indices (drop l.other-index l.others))
    ≡ list_any (mem (groups_at l.groups l.redefined l.group.index)) (indices l.others)
