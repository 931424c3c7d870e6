use Rattle.std.proofs.Common.{◌≡◌, map}
use Rattle.serde_json.specs.View.{members_view}
use Rattle.fv_datum.specs.Members.{pairs, each_some}
use Rattle.fv_model.specs.Draft.{object_draft}
use Rattle.fv_model.specs.Views.{part_view}
use Rattle.fv_datum.proofs.Fronts.{with_front}
use Rattle.fv_model.proofs.draft.parts_of.Given as goal

abbrev pub invariant-loop-name : goal.invariant-loop-name
invariant-loop-name l = with_front (map part_view l.parts.items) (each_some object_draft (pairs (members_view l.name-iterator))) ≡ each_some object_draft (pairs (members_view l.objects.entries))
