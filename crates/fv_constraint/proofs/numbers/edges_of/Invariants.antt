use Rattle.std.proofs.Common.{◌≡◌, ◌++◌, map}
use Rattle.fv_declare_definition.specs.DefinitionViews.{definition_entry}
use Rattle.fv_constraint.specs.Numbered.{numbers_of}
use Rattle.fv_constraint.proofs.numbers.edges_of.Given as goal

abbrev pub invariant-loop-definition : goal.invariant-loop-definition
invariant-loop-definition l =
    map (λ nodes. nodes.items) l.edges.items ++ map (λ d. numbers_of l.numbers d.1.composing) (map definition_entry l.definition-iterator)
    ≡ map (λ d. numbers_of l.numbers d.1.composing) l.numbers
