use Rattle.std.proofs.Common.{◌≡◌, None, map, option_map}
use Rattle.std.specs.Map.{keys_of}
use Rattle.fv_bundle.specs.Typing.{ascend_behind}
use Rattle.fv_bundle.specs.Views.{named_view, objects_view}
use Rattle.fv_bundle.proofs.typing.are_ascending.Given as goal

abbrev pub invariant-loop-name : goal.invariant-loop-name
invariant-loop-name l = ascend_behind (option_map (λ s. s.now) l.last) (keys_of (map named_view l.name-iterator)) ≡ ascend_behind None (keys_of (objects_view l.objects))
