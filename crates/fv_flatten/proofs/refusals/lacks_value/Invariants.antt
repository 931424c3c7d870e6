use Rattle.std.proofs.Common.{◌≡◌, map}
use Rattle.fv_declare_definition.specs.DefinitionViews.{attribute_entry}
use Rattle.fv_flatten.specs.Refusals.{lacks_value}
use Rattle.fv_flatten.proofs.refusals.lacks_value.Given as goal

abbrev pub invariant-loop-name : goal.invariant-loop-name
invariant-loop-name l = lacks_value (map attribute_entry l.name-iterator) l.given ≡ lacks_value (map attribute_entry l.attributes.entries) l.given
