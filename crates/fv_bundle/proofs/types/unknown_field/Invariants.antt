use Rattle.std.proofs.Common.{◌+◌, ◌<◌, ◌≡◌, map, if◌then◌else◌, Some, None}
use Prim.Native.Nat.{◌^◌}
use Rattle.fv_first.specs.First.{first_from}
use Rattle.fv_bundle.specs.Types.{use_view, declared_view, fields_view, is_unknown}
use Rattle.fv_bundle.specs.Whereabouts.{unknown_field}
use Rattle.fv_bundle.proofs.types.unknown_field.Given as goal

abbrev pub invariant-loop-number : goal.invariant-loop-number
invariant-loop-number l =
    (goal.iterator-loop-number).can_next l.type_use-iterator ×
    (goal.iterator-loop-number).is_finite l.type_use-iterator ×
    l.number + (goal.iterator-loop-number).remaining l.type_use-iterator < 2 ^ 64 ×
    (first_from (λ n f. if is_unknown (declared_view l.declared) f.1 then Some n else None) l.number (map use_view l.type_use-iterator)
    ≡ unknown_field (declared_view l.declared) (fields_view l.fields))
