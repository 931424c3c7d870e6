use Rattle.std.proofs.Common.{◌≡◌, map, drop}
use Rattle.serde_json.specs.View.{items_view}
use Rattle.fv_datum.specs.Members.{listed, each_some}
use Rattle.fv_declare_draft.specs.Uses.{use_of}
use Rattle.fv_declare_draft.specs.DraftViews.{use_view}
use Rattle.fv_datum.proofs.Fronts.{with_front}
use Rattle.fv_declare_draft.proofs.uses.uses_in.Given as goal

abbrev pub invariant-loop-value : goal.invariant-loop-value
invariant-loop-value l = with_front (map use_view l.uses.items) (each_some use_of (listed (items_view (drop l.value-index l.values)))) ≡ each_some use_of (listed (items_view l.values))
