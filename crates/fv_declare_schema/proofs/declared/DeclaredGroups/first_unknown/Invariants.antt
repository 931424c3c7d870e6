use Rattle.std.proofs.Common.{◌≡◌, drop, not, is_some, if◌then◌else◌, Some, None}
use Rattle.fv_first.specs.First.{first_from}
use Rattle.fv_declare_schema.specs.GroupViews.{names_view}
use Rattle.fv_declare_schema.specs.Groups.{group_number}
use Rattle.fv_declare_schema.specs.Whereabouts.{first_unknown}
use Rattle.fv_declare_schema.proofs.declared.DeclaredGroups.first_unknown.Given as goal

abbrev pub invariant-loop-number : goal.invariant-loop-number
invariant-loop-number l =
    first_from (λ n name. if not (is_some (group_number l.self name)) then Some n else None) l.number (names_view (drop l.number l.names))
    ≡ first_unknown l.self (names_view l.names)
