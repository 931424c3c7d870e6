use Rattle.std.proofs.Common.{◌≡◌}
use Rattle.std.specs.List.{sum_by}
use Rattle.fv_builtin.specs.Sizes.{units_of}
use Rattle.fv_builtin.proofs.size.utf16_size.Given as goal

abbrev pub invariant-loop-c : goal.invariant-loop-c
invariant-loop-c l = l.units ≡ sum_by units_of l.yielded
