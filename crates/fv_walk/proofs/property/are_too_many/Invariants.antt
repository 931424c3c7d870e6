use Rattle.std.proofs.Common.{◌≡◌, ◌≤◌, ◌+◌, drop}
use Rattle.fv_declare_schema.specs.Tables.{indices}
use Rattle.fv_walk.specs.Ranks.{count_ranks}
use Rattle.fv_walk.proofs.property.are_too_many.Given as goal

abbrev pub invariant-loop-group : goal.invariant-loop-group
invariant-loop-group l = record {
  counts : l.count + count_ranks l.groups (drop l.group-index (indices l.asked)) ≡ count_ranks l.groups (indices l.asked);
  few : l.count ≤ 4096;
}
