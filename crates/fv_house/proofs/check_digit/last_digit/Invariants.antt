use Rattle.std.proofs.Common.{◌≡◌, reverse, ◌%◌, ◌<◌, ◌+◌, ◌≤◌, length, take}
use Rattle.fv_house.specs.Luhn.{luhn_sum}
use Rattle.fv_house.proofs.Digits.{flagged}
use Rattle.fv_house.proofs.check_digit.last_digit.Given as goal

abbrev pub invariant-loop-left : goal.invariant-loop-left
invariant-loop-left l =
    (l.left ≤ length l.bytes) × (l.rest < 10) × ((l.rest + flagged l.second (reverse (take l.left l.bytes))) % 10 ≡ luhn_sum (reverse l.bytes) % 10)

abbrev pub decreases-loop-left : goal.decreases-loop-left
decreases-loop-left l = l.left
