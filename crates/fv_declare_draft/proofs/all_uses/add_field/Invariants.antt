use Rattle.std.proofs.Common.{◌≡◌, ◌++◌, map, drop}
use Rattle.fv_declare_draft.specs.DraftViews.{placed_use_view}
use Rattle.fv_declare_draft.specs.UseViews.{use_view}
use Rattle.fv_declare_draft.specs.AllUses.{use_in}
use Rattle.fv_declare_draft.proofs.all_uses.add_field.Given as goal

abbrev pub invariant-loop-placed : goal.invariant-loop-placed
invariant-loop-placed l =
    map use_view l.uses.items ++ map (use_in l.type_index l.number) (map placed_use_view (drop l.placed-index l.drafts))
    ≡ map use_view l.initial.uses.items ++ map (use_in l.type_index l.number) (map placed_use_view l.drafts)
