use Rattle.std.proofs.Common.{◌≡◌, ◌++◌, map, drop}
use Rattle.std.specs.List.{flat_map, enumerate_from}
use Rattle.fv_declare_draft.specs.DraftViews.{type_view}
use Rattle.fv_declare_draft.specs.UseViews.{use_view}
use Rattle.fv_declare_draft.specs.AllUses.{type_uses, uses_in}
use Rattle.fv_declare_draft.proofs.all_uses.uses_in.Given as goal

abbrev pub invariant-loop-index : goal.invariant-loop-index
invariant-loop-index l =
    map use_view l.uses.items ++ flat_map type_uses (enumerate_from l.index (map type_view (drop l.index l.types)))
    ≡ uses_in (map type_view l.types)
