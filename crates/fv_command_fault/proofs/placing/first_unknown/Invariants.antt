use Rattle.std.proofs.Common.{◌≡◌, not, drop, map, is_some, if◌then◌else◌, Some, None}
use Rattle.fv_first.specs.First.{first_from}
use Rattle.fv_declare_schema.specs.Groups.{group_number}
use Rattle.fv_declare_schema.specs.Whereabouts.{first_unknown}
use Rattle.fv_command_fault.proofs.placing.first_unknown.Given as goal

abbrev pub invariant-loop-number : goal.invariant-loop-number
invariant-loop-number l =
    first_from (λ n name. if not (is_some (group_number l.groups name)) then Some n else None) l.number (map (λ n. n.now) (drop l.number l.names))
    ≡ first_unknown l.groups (map (λ n. n.now) l.names)
