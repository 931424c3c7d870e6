use Rattle.std.proofs.Common.{◌≡◌, drop, false, if◌then◌else◌, Some, None}
use Rattle.std.specs.Option.{option_map_or}
use Rattle.fv_first.specs.First.{first_from}
use Rattle.fv_declare_schema.specs.GroupViews.{names_view}
use Rattle.fv_declare_schema.specs.Groups.{group_number, is_sequence}
use Rattle.fv_declare_schema.specs.Whereabouts.{first_sequence}
use Rattle.fv_declare_schema.proofs.declared.DeclaredGroups.first_sequence.Given as goal

abbrev pub invariant-loop-number : goal.invariant-loop-number
invariant-loop-number l =
    first_from (λ n name. if option_map_or (is_sequence l.self) (group_number l.self name) false then Some n else None) l.number (names_view (drop l.number l.names))
    ≡ first_sequence l.self (names_view l.names)
