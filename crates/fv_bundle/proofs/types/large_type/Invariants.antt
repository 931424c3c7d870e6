use Rattle.std.proofs.Common.{◌+◌, ◌<◌, ◌≡◌, map}
use Prim.Native.Nat.{◌^◌}
use Rattle.fv_first.specs.First.{first_from}
use Rattle.fv_bundle.specs.Types.{FieldsApart, type_view, declared_view}
use Rattle.fv_bundle.specs.Whereabouts.{large_in, large_type_at}
use Rattle.fv_bundle.proofs.types.large_type.Given as goal

abbrev pub invariant-loop-number : goal.invariant-loop-number
invariant-loop-number l = record {
  can_next : (goal.iterator-loop-number).can_next l.fields-iterator;
  is_finite : (goal.iterator-loop-number).is_finite l.fields-iterator;
  counted : l.number + (goal.iterator-loop-number).remaining l.fields-iterator < 2 ^ 64;
  large : first_from (λ n t. large_in n t.1) l.number (map type_view l.fields-iterator) ≡ large_type_at (declared_view l.declared);
  apart : FieldsApart (map type_view l.fields-iterator) → FieldsApart (declared_view l.declared);
}
