use Rattle.std.proofs.Common.{◌≡◌, ◌≤◌, ◌+◌, ◌++◌, map, drop}
use Rattle.std.specs.List.{AllByRecursion}
use Rattle.fv_local.proofs.judge.add_numbers.Given as goal

abbrev pub invariant-loop-number : goal.invariant-loop-number
invariant-loop-number l = record {
  made : l.numbers.items ++ map (λ n. l.first + n) (drop l.number-index l.reported) ≡ l.initial.numbers.items ++ map (λ n. l.first + n) l.reported;
  room : AllByRecursion (λ n. l.first + n ≤ 1024) (drop l.number-index l.reported);
}
