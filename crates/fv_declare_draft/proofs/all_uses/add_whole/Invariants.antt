use Rattle.std.proofs.Common.{◌≡◌, ◌++◌, map, drop}
use Rattle.fv_declare_draft.specs.DraftViews.{use_view as draft_use_view}
use Rattle.fv_declare_draft.specs.UseViews.{use_view}
use Rattle.fv_declare_schema.specs.Places.{whole}
use Rattle.fv_declare_draft.specs.AllUses.{use_at}
use Rattle.fv_declare_draft.proofs.all_uses.add_whole.Given as goal

abbrev pub invariant-loop-draft : goal.invariant-loop-draft
invariant-loop-draft l =
    map use_view l.uses.items ++ map (use_at l.type_index whole) (map draft_use_view (drop l.draft-index l.drafts))
    ≡ map use_view l.initial.uses.items ++ map (use_at l.type_index whole) (map draft_use_view l.drafts)
