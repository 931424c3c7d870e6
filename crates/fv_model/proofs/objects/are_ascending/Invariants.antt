use Rattle.std.proofs.Common.{◌≡◌, None, map, drop, option_map}
use Rattle.std.specs.Map.{keys_of}
use Rattle.fv_bundle.specs.Typing.{ascend_behind}
use Rattle.fv_model.specs.Reading.{object_types}
use Rattle.fv_model.specs.Views.{part_view}
use Rattle.fv_model.proofs.objects.are_ascending.Given as goal

abbrev pub invariant-loop-object : goal.invariant-loop-object
invariant-loop-object l = ascend_behind (option_map (λ s. s.now) l.last) (keys_of (object_types (map part_view (drop l.object-index l.objects)))) ≡ ascend_behind None (keys_of (object_types (map part_view l.objects)))
