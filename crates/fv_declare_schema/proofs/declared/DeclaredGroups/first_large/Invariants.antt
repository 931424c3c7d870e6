use Rattle.std.proofs.Common.{◌+◌, ◌<◌, ◌≡◌, map, length, nat_lt, Some, None, if◌then◌else◌}
use Prim.Native.Nat.{◌^◌}
use Rattle.fv_first.specs.First.{first_from}
use Rattle.fv_declare_schema.specs.GroupViews.{group_view}
use Rattle.fv_declare_schema.specs.Groups.{group_names_of}
use Rattle.fv_declare_schema.specs.Judged.{most_names}
use Rattle.fv_declare_schema.specs.Whereabouts.{first_large}
use Rattle.fv_declare_schema.proofs.declared.DeclaredGroups.first_large.Given as goal

abbrev pub invariant-loop-number : goal.invariant-loop-number
invariant-loop-number l =
    (goal.iterator-loop-number).can_next l.draft-iterator ×
    (goal.iterator-loop-number).is_finite l.draft-iterator ×
    l.number + (goal.iterator-loop-number).remaining l.draft-iterator < 2 ^ 64 ×
    (first_from (λ n g. if nat_lt most_names (length (group_names_of g.1)) then Some n else None) (l.number + 1) (map group_view l.draft-iterator) ≡ first_large l.self)
