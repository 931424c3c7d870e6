use Rattle.std.proofs.Common.{◌+◌, ◌<◌, ◌≡◌, map, option_map}
use Prim.Native.Nat.{◌^◌}
use Rattle.fv_first.specs.First.{first_from}
use Rattle.fv_declare_schema.specs.GroupViews.{group_view}
use Rattle.fv_declare_schema.specs.Groups.{inherited_by}
use Rattle.fv_declare_schema.specs.Whereabouts.{name_in, first_sequence, inherited_sequence}
use Rattle.fv_declare_schema.proofs.declared.DeclaredGroups.inherited_sequence.Given as goal

abbrev pub invariant-loop-number : goal.invariant-loop-number
invariant-loop-number l =
    (goal.iterator-loop-number).can_next l.draft-iterator ×
    (goal.iterator-loop-number).is_finite l.draft-iterator ×
    l.number + (goal.iterator-loop-number).remaining l.draft-iterator < 2 ^ 64 ×
    (first_from (λ n g. option_map (name_in n) (first_sequence l.self (inherited_by g.1))) (l.number + 1) (map group_view l.draft-iterator) ≡ inherited_sequence l.self)
