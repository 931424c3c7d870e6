use Rattle.std.proofs.Common.{◌≡◌, ◌++◌, map, drop}
use Rattle.std.specs.List.{flat_map, enumerate_from}
use Rattle.fv_declare_draft.specs.DraftViews.{type_view}
use Rattle.fv_declare_draft.specs.AllCascades.{type_cascades, cascades_in}
use Rattle.fv_declare_draft.specs.UseViews.{cascade_view}
use Rattle.fv_declare_draft.proofs.all_cascades.cascades_in.Given as goal

abbrev pub invariant-loop-index : goal.invariant-loop-index
invariant-loop-index l =
    map cascade_view l.cascades.items ++ flat_map type_cascades (enumerate_from l.index (map type_view (drop l.index l.types)))
    ≡ cascades_in (map type_view l.types)
