use Rattle.std.proofs.Common.{◌+◌, ◌<◌, ◌≡◌, map, option_map}
use Prim.Native.Nat.{◌^◌}
use Rattle.fv_first.specs.First.{first_from}
use Rattle.fv_bundle.specs.Types.{type_view, declared_view}
use Rattle.fv_bundle.specs.Whereabouts.{unknown_field, unknown_reference_at}
use Rattle.fv_bundle.specs.declared.fault.TypesAt.TheVariants as at
use Rattle.fv_bundle.proofs.types.unknown_reference.Given as goal

abbrev pub invariant-loop-number : goal.invariant-loop-number
invariant-loop-number l =
    (goal.iterator-loop-number).can_next l.fields-iterator ×
    (goal.iterator-loop-number).is_finite l.fields-iterator ×
    l.number + (goal.iterator-loop-number).remaining l.fields-iterator < 2 ^ 64 ×
    (first_from (λ n t. option_map (at.Field n) (unknown_field (declared_view l.declared) t.1)) l.number (map type_view l.fields-iterator)
    ≡ unknown_reference_at (declared_view l.declared))
