use Rattle.std.proofs.Common.{◌≡◌, ◌++◌, map}
use Rattle.fv_bundle.specs.Views.{named_view, objects_view}
use Rattle.fv_model_fault.proofs.Seen.{types_of_all}
use Rattle.fv_bundle.specs.Names.{object_types_view}
use Rattle.fv_model_fault.proofs.setting.object_types.Given as goal

abbrev pub invariant-loop-name : goal.invariant-loop-name
invariant-loop-name l = object_types_view l.names ++ types_of_all (map named_view l.name-iterator) ≡ types_of_all (objects_view l.objects)
