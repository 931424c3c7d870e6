use Rattle.std.proofs.Common.{◌≡◌, ◌++◌, map}
use Rattle.fv_local.specs.Told.{told_view, told_whole}
use Rattle.fv_local.proofs.uses.add_object.Given as goal

abbrev pub invariant-loop-number : goal.invariant-loop-number
invariant-loop-number g l = map told_view l.failures.items ++ map told_whole l.number-iterator.rest.items
    ≡ map told_view l.initial.failures.items ++ map told_whole l.initial.number-iterator.rest.items
