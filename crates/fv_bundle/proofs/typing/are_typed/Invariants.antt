use Rattle.std.proofs.Common.{◌≡◌, Some, map}
use Rattle.std.specs.List.{list_all}
use Rattle.fv_bundle.specs.Typing.{naming, is_named_thing}
use Rattle.fv_bundle.specs.Views.{types_view, named_view, objects_view}
use Rattle.fv_bundle.proofs.typing.are_typed.Given as goal

abbrev pub invariant-loop-name : goal.invariant-loop-name
invariant-loop-name l =
    list_all (is_named_thing (naming (Some (objects_view l.objects))) (types_view l.types)) (map named_view l.name-iterator)
    ≡ list_all (is_named_thing (naming (Some (objects_view l.objects))) (types_view l.types)) (objects_view l.objects)
