-- The targets that contracts see.
use Rattle.fv_constraint_tree.specs.Targets as spec
use Rattle.fv_constraint_tree.specs.declared.node.Target.{Target}
use Rattle.fv_constraint_tree.specs.declared.node.Target.TheVariants as place

-- what a constraint stands on
abbrev pub target_view : Target → spec.Target
target_view place.Object = spec.on_object
target_view (place.Data kind) = spec.on_data kind
