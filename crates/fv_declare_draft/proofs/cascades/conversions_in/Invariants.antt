use Rattle.std.proofs.Common.{◌≡◌, map}
use Rattle.serde_json.specs.View.{members_view}
use Rattle.fv_datum.specs.Members.{pairs, each_some}
use Rattle.fv_datum.proofs.Fronts.{with_front}
use Rattle.fv_declare_draft.specs.Cascades.{conversion_of}
use Rattle.fv_declare_draft.specs.DraftViews.{conversion_view}
use Rattle.fv_declare_draft.proofs.cascades.conversions_in.Given as goal

abbrev pub invariant-loop-from : goal.invariant-loop-from
invariant-loop-from l = with_front (map conversion_view l.conversions.items) (each_some conversion_of (pairs (members_view l.from-iterator))) ≡ each_some conversion_of (pairs (members_view l.members.entries))
