use Rattle.std.proofs.Common.{◌≡◌, map, drop, if◌then◌else◌, Some, None}
use Rattle.fv_first.specs.First.{first_from}
use Rattle.std.specs.Prelude.{false}
use Rattle.std.specs.Option.{option_map_or}
use Rattle.fv_declare_schema.specs.Groups.{group_number, is_sequence}
use Rattle.fv_declare_schema.specs.Whereabouts.{first_sequence}
use Rattle.fv_declare_groups.proofs.sequences.first_sequence.Given as goal

abbrev pub invariant-loop-number : goal.invariant-loop-number
invariant-loop-number l =
    first_from (λ n name. if option_map_or (is_sequence l.graph) (group_number l.graph name) false then Some n else None) l.number (map (λ n. n.now) (drop l.number l.names))
    ≡ first_sequence l.graph (map (λ n. n.now) l.names)
