use Rattle.fv_local.specs.Below.{groups_at}
use Rattle.fv_local.proofs.Finding.{AreReachedBefore}
use Rattle.fv_local.proofs.reached.reached.Given as goal

abbrev pub invariant-loop-number : goal.invariant-loop-number
invariant-loop-number l =
    AreReachedBefore l.schema l.fn.uses.type_id.index (groups_at l.schema.groups l.redefined l.group.index) l.number l.found.items
