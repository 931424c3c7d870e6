use Rattle.std.proofs.Common.{◌≡◌, ◌++◌, map}
use Rattle.std.specs.Vec.Iter.{into_iter_items}
use Rattle.fv_extract.specs.Views.{step_view}
use Rattle.fv_declare_draft.specs.DraftViews.{use_view, placed_use_view}
use Rattle.fv_declare_draft.specs.Places.{use_there}
use Rattle.fv_declare_draft.proofs.places.uses_before.Given as goal

abbrev pub invariant-loop-draft : goal.invariant-loop-draft
invariant-loop-draft l = map placed_use_view l.uses.items ++ map (use_there (map step_view l.steps) l.kind) (map use_view (into_iter_items l.draft-iterator))
    ≡ map (use_there (map step_view l.steps) l.kind) (map use_view l.fn.drafts.items)
