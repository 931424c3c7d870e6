use Rattle.std.proofs.Common.{◌≡◌, ◌+◌, ◌++◌, length, map}
use Rattle.fv_declare_definition.specs.DefinitionViews.{definition_entry}
use Rattle.fv_constraint.specs.Numbered.{placed, place_entry}
use Rattle.fv_constraint.proofs.numbers.places_of.Given as goal

abbrev pub invariant-loop-name : goal.invariant-loop-name
invariant-loop-name l = record {
  made : map place_entry l.places.entries ++ placed l.place (map definition_entry l.name-iterator) ≡ placed 0 (map definition_entry l.definitions.entries);
  fits : l.place + length l.name-iterator ≡ length l.definitions.entries;
}
