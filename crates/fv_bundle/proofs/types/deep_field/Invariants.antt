use Rattle.std.proofs.Common.{◌+◌, ◌<◌, ◌≡◌, map, nat_lt, if◌then◌else◌, Some, None}
use Prim.Native.Nat.{◌^◌}
use Rattle.fv_first.specs.First.{first_from}
use Rattle.fv_bundle.specs.TypeLimits.{most_nested}
use Rattle.fv_bundle.specs.Types.{nested, use_view, fields_view}
use Rattle.fv_bundle.specs.Whereabouts.{deep_field}
use Rattle.fv_bundle.proofs.types.deep_field.Given as goal

abbrev pub invariant-loop-number : goal.invariant-loop-number
invariant-loop-number l =
    (goal.iterator-loop-number).can_next l.type_use-iterator ×
    (goal.iterator-loop-number).is_finite l.type_use-iterator ×
    l.number + (goal.iterator-loop-number).remaining l.type_use-iterator < 2 ^ 64 ×
    (first_from (λ n f. if nat_lt most_nested (nested f.1) then Some n else None) l.number (map use_view l.type_use-iterator) ≡ deep_field (fields_view l.fields))
