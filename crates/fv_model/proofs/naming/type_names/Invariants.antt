use Rattle.std.proofs.Common.{◌≡◌, ◌++◌, map}
use Rattle.fv_bundle.specs.Names.{object_types_view}
use Rattle.fv_model.specs.Views.{named_view, objects_view}
use Rattle.fv_model.proofs.Conditions.{types_of}
use Rattle.fv_model.proofs.naming.type_names.Given as goal

abbrev pub invariant-loop-name : goal.invariant-loop-name
invariant-loop-name l = object_types_view l.out ++ types_of (map named_view l.name-iterator) ≡ types_of (objects_view l.objects)
