use Rattle.std.proofs.Common.{◌≡◌, false, drop}
use Rattle.fv_path.proofs.Strings.{left_of, further}
use Rattle.fv_path.proofs.key.string_len.Given as goal

abbrev pub invariant-loop-i : goal.invariant-loop-i
invariant-loop-i l = further l.i (left_of l.escaped (drop l.i l.text)) ≡ further 1 (left_of false (drop 1 l.text))
