use Rattle.std.proofs.Common.{◌≡◌, ◌<◌, map, length, drop}
use Rattle.std.specs.List.{All}
use Rattle.fv_datum.specs.Members.{each_some}
use Rattle.fv_datum.proofs.Fronts.{with_front}
use Rattle.fv_declare_schema.specs.Groups.{group_number}
use Rattle.fv_declare_schema.specs.Tables.{indices}
use Rattle.fv_engine_machine.proofs.checking.groups_named.Given as goal

abbrev pub invariant-loop-name : goal.invariant-loop-name
invariant-loop-name l = record {
  numbers : with_front (indices l.found.items) (each_some (group_number l.groups) (map (λ n. n.now) (drop l.name-index l.names))) ≡ each_some (group_number l.groups) (map (λ n. n.now) l.names);
  within : All (λ g. g.index < length l.groups) l.found.items;
}
