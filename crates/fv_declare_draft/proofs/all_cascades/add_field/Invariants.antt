use Rattle.std.proofs.Common.{◌≡◌, ◌++◌, map, drop}
use Rattle.fv_declare_draft.specs.DraftViews.{placed_cascade_view}
use Rattle.fv_declare_draft.specs.AllCascades.{cascade_in}
use Rattle.fv_declare_draft.specs.UseViews.{cascade_view}
use Rattle.fv_declare_draft.proofs.all_cascades.add_field.Given as goal

abbrev pub invariant-loop-placed : goal.invariant-loop-placed
invariant-loop-placed l =
    map cascade_view l.cascades.items ++ map (cascade_in l.type_index l.number) (map placed_cascade_view (drop l.placed-index l.drafts))
    ≡ map cascade_view l.initial.cascades.items ++ map (cascade_in l.type_index l.number) (map placed_cascade_view l.drafts)
