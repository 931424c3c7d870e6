use Rattle.std.proofs.Common.{◌+◌, ◌<◌, ◌≡◌, map, option_map}
use Prim.Native.Nat.{◌^◌}
use Rattle.fv_first.specs.First.{first_from}
use Rattle.fv_declare_schema.specs.GroupViews.{group_view}
use Rattle.fv_declare_schema.specs.Groups.{group_names_of}
use Rattle.fv_declare_schema.specs.Whereabouts.{name_in, first_unknown, unknown_name}
use Rattle.fv_declare_schema.proofs.declared.DeclaredGroups.unknown_name.Given as goal

abbrev pub invariant-loop-number : goal.invariant-loop-number
invariant-loop-number l =
    (goal.iterator-loop-number).can_next l.draft-iterator ×
    (goal.iterator-loop-number).is_finite l.draft-iterator ×
    l.number + (goal.iterator-loop-number).remaining l.draft-iterator < 2 ^ 64 ×
    (first_from (λ n g. option_map (name_in n) (first_unknown l.self (group_names_of g.1))) (l.number + 1) (map group_view l.draft-iterator) ≡ unknown_name l.self)
