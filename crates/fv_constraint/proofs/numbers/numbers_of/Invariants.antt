use Rattle.std.proofs.Common.{◌≡◌, map, take}
use Rattle.fv_declare_definition.specs.DefinitionViews.{composing_view}
use Rattle.fv_constraint.specs.Numbered.{numbers_of}
use Rattle.fv_constraint.proofs.numbers.numbers_of.Given as goal

abbrev pub invariant-loop-constraint : goal.invariant-loop-constraint
invariant-loop-constraint l = l.nodes.items ≡ numbers_of l.numbers (map composing_view (take l.constraint-index l.composing))
