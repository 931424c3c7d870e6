use Rattle.std.proofs.Common.{◌≡◌, ◌++◌, take, drop}
use Rattle.fv_datum.specs.Decimals.{before_point, behind_point}
use Rattle.fv_datum.proofs.decimal.split_at_point.Given as goal

abbrev pub invariant-loop-i : goal.invariant-loop-i
invariant-loop-i l = record {
  before : take l.i l.bytes ++ before_point (drop l.i l.bytes) ≡ before_point l.bytes;
  behind : behind_point (drop l.i l.bytes) ≡ behind_point l.bytes;
}
