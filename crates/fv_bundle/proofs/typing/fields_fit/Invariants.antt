use Rattle.std.proofs.Common.{◌≡◌, map, option_map}
use Rattle.fv_bundle.specs.Types.{use_view, fields_view}
use Rattle.fv_bundle.specs.Typing.{naming, fields_fit}
use Rattle.fv_bundle.specs.Views.{fields_left, object_view, objects_view}
use Rattle.fv_bundle.proofs.typing.fields_fit.Given as goal

abbrev pub invariant-loop-name : goal.invariant-loop-name
invariant-loop-name l =
    fields_fit (naming (option_map (λ m. objects_view m.now) l.among)) (map use_view l.name-iterator) (fields_left l.fields)
    ≡ fields_fit (naming (option_map (λ m. objects_view m.now) l.among)) (fields_view l.declared) (object_view l.object).fields
