use Rattle.std.proofs.Common.{◌+◌, ◌<◌, ◌≡◌, ◌++◌, map}
use Prim.Native.Nat.{◌^◌}
use Rattle.fv_bundle.specs.Types.{use_view, fields_view}
use Rattle.fv_widening.specs.Narrowed.{found_from, field_narrowed, fields_narrowed}
use Rattle.fv_widening.proofs.narrowing.add_fields.Given as goal

abbrev pub invariant-loop-number : goal.invariant-loop-number
invariant-loop-number l =
    (goal.iterator-loop-number).can_next l.name-iterator ×
    (goal.iterator-loop-number).is_finite l.name-iterator ×
    l.number + (goal.iterator-loop-number).remaining l.name-iterator < 2 ^ 64 ×
    (l.found.items ++ found_from (field_narrowed l.fn.type_number (fields_view l.there)) l.number (map use_view l.name-iterator)
    ≡ l.initial.found.items ++ fields_narrowed l.fn.type_number (fields_view l.old) (fields_view l.there))
