use Rattle.std.proofs.Common.{◌≡◌, ◌+◌, ◌<◌, map, not, if◌then◌else◌, Some, None}
use Prim.Native.Nat.{◌^◌}
use Rattle.fv_builtin.specs.Given.{has_kind}
use Rattle.fv_first.specs.First.{first_from}
use Rattle.fv_constraint.specs.Composing.{signature_attributes, kind_in}
use Rattle.fv_constraint.specs.MeantView.{meant_view}
use Rattle.fv_constraint.specs.Whereabouts.{foreign_given}
use Rattle.fv_datum.specs.AttributeKinds.{attribute_kind}
use Rattle.fv_datum.specs.Attributes.{entry_view}
use Rattle.fv_constraint.proofs.composing.foreign_given.Given as goal

abbrev pub invariant-loop-number : goal.invariant-loop-number
invariant-loop-number l =
    (goal.iterator-loop-number).can_next l.name-iterator ×
    (goal.iterator-loop-number).is_finite l.name-iterator ×
    l.number + (goal.iterator-loop-number).remaining l.name-iterator < 2 ^ 64 ×
    (first_from (λ n a. if not (has_kind (kind_in (signature_attributes (meant_view l.meant)) a.0) (attribute_kind a.1)) then Some n else None) l.number (map entry_view l.name-iterator)
    ≡ foreign_given (signature_attributes (meant_view l.meant)) l.given)
