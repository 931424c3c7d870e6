use Rattle.std.proofs.Common.{◌≡◌, ℕ, List, map, true, option_and_then, string_cmp}
use Rattle.std.specs.List.Sorted.{IsStrictlySortedBy}
use Rattle.std.specs.Map.{keys_of}
use Rattle.std.specs.Option.{option_or}
use Rattle.fv_datum.specs.Maps.{ascends}
use Rattle.fv_datum.specs.Attributes.{entry_view}
use Rattle.fv_datum.specs.Lookup.{at_name}
use Rattle.fv_constraint.specs.Meanings.{declared}
use Rattle.fv_declare_definition.specs.DefinitionViews.{attribute_entry, definition_view}
use Rattle.fv_constraint.specs.Effect.{effective}
use Rattle.fv_constraint.proofs.effect.put_declared.Given as goal

abbrev pub invariant-loop-name : goal.invariant-loop-name
invariant-loop-name l = record {
  each : (name : List ℕ)
      → option_or (at_name name (map entry_view l.entries.entries)) (option_and_then (λ a. a.default) (at_name name (map attribute_entry l.name-iterator)))
      ≡ effective (declared (definition_view l.definition)) (map entry_view l.fn.entries.entries) name;
  ascending : ascends (map entry_view l.fn.entries.entries) ≡ true → ascends (map entry_view l.entries.entries) ≡ true;
  left : IsStrictlySortedBy string_cmp (keys_of l.name-iterator);
}
