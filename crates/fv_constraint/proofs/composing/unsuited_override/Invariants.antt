use Rattle.std.proofs.Common.{◌≡◌, ◌+◌, ◌<◌, ◌||◌, map, not, is_some, if◌then◌else◌, Some, None}
use Prim.Native.Nat.{◌^◌}
use Rattle.fv_first.specs.First.{first_from}
use Rattle.fv_constraint.specs.Composing.{signature_attributes, kind_in, are_alike}
use Rattle.fv_constraint.specs.MeantView.{meant_view}
use Rattle.fv_constraint.specs.Whereabouts.{unsuited_override}
use Rattle.fv_datum.specs.Lookup.{at_name}
use Rattle.fv_declare_definition.specs.DefinitionViews.{composing_view, override_entry}
use Rattle.fv_constraint.proofs.composing.unsuited_override.Given as goal

abbrev pub invariant-loop-number : goal.invariant-loop-number
invariant-loop-number l =
    (goal.iterator-loop-number).can_next l.name-iterator ×
    (goal.iterator-loop-number).is_finite l.name-iterator ×
    l.number + (goal.iterator-loop-number).remaining l.name-iterator < 2 ^ 64 ×
    (first_from (λ n o. if not (are_alike (kind_in (signature_attributes (meant_view l.meant)) o.0) (kind_in (signature_attributes (meant_view l.composed)) o.1)) || is_some (at_name o.0 l.composing.with) then Some n else None) l.number (map override_entry l.name-iterator)
    ≡ unsuited_override (signature_attributes (meant_view l.composed)) (signature_attributes (meant_view l.meant)) (composing_view l.composing))
