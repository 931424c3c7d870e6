use Rattle.std.proofs.Common.{◌≡◌, ◌++◌, map, drop}
use Rattle.std.specs.List.{flat_map, enumerate_from}
use Rattle.fv_declare_draft.specs.DraftViews.{field_view}
use Rattle.fv_declare_draft.specs.AllCascades.{field_cascades}
use Rattle.fv_declare_draft.specs.UseViews.{cascade_view}
use Rattle.fv_declare_draft.proofs.all_cascades.add_fields.Given as goal

abbrev pub invariant-loop-number : goal.invariant-loop-number
invariant-loop-number l =
    map cascade_view l.cascades.items ++ flat_map (field_cascades l.type_index) (enumerate_from l.number (map field_view (drop l.number l.fields)))
    ≡ map cascade_view l.initial.cascades.items ++ flat_map (field_cascades l.type_index) (enumerate_from 0 (map field_view l.fields))
