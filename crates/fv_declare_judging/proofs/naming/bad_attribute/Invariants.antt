use Rattle.std.proofs.Common.{◌+◌, ◌<◌, ◌≡◌, map, not, if◌then◌else◌, Some, None}
use Prim.Native.Nat.{◌^◌}
use Rattle.fv_datum.specs.Name.{names}
use Rattle.fv_declare_definition.specs.DefinitionViews.{attribute_entry}
use Rattle.fv_first.specs.First.{first_from}
use Rattle.fv_declare_judging.specs.NamePlaces.{bad_attribute}
use Rattle.fv_declare_judging.proofs.naming.bad_attribute.Given as goal

abbrev pub invariant-loop-number : goal.invariant-loop-number
invariant-loop-number l =
    (goal.iterator-loop-number).can_next l.name-iterator ×
    (goal.iterator-loop-number).is_finite l.name-iterator ×
    l.number + (goal.iterator-loop-number).remaining l.name-iterator < 2 ^ 64 ×
    (first_from (λ n a. if not (names a.0) then Some n else None) l.number (map attribute_entry l.name-iterator) ≡ bad_attribute (map attribute_entry l.attributes.entries))
