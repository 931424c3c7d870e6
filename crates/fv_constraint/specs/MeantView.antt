-- What the name of a constraint stands for, as contracts see it.
use Rattle.fv_declare_definition.specs.DefinitionViews.{definition_view}
use Rattle.fv_constraint.specs.Meanings as spec
use Rattle.fv_constraint.specs.declared.meant.Meant.{Meant}
use Rattle.fv_constraint.specs.declared.meant.Meant.TheVariants as meant

-- what a constraint's name stands for
abbrev pub meant_view : Meant → spec.Meant
meant_view (meant.BuiltIn which) = spec.builtin which
meant_view (meant.Declared d) = spec.declared (definition_view d.now)
