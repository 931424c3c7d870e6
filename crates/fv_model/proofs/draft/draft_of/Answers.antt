use Rattle.std.proofs.Common.{◌≡◌, map, Some}
use Rattle.serde_json.specs.View.{members_view}
use Rattle.fv_datum.specs.Members.{pairs, each_some}
use Rattle.fv_datum.proofs.Values.{members_ascend}
use Rattle.fv_model.specs.Draft.{object_draft}
use Rattle.fv_model.specs.Views.{part_view}
use Rattle.fv_model.proofs.Listed.{parts_ascend}
use Rattle.fv_model.proofs.draft.draft_of.Goals as goal

pub object_types_of-requires : goal.object_types_of-requires
object_types_of-requires c =
    let es = c.in-Some-object_at.objects.now.entries in
    let parts : Some (map part_view c.in-Some-2.objects.items) ≡ each_some object_draft (pairs (members_view es)) = rw c.in-Some-2.is at c.in_ok-parts_of.ensures.parts in
    rw c.deref.ensures.value (parts_ascend (pairs (members_view es)) (map part_view c.in-Some-2.objects.items) (members_ascend es c.in_ok-parts_of.ensures.ordered) parts)

pub invariant_of-result-clause-ascending : goal.invariant_of-result-clause-ascending
invariant_of-result-clause-ascending c =
    let es = c.in-Some-object_at.objects.now.entries in
    let parts : Some (map part_view c.in-Some-2.objects.items) ≡ each_some object_draft (pairs (members_view es)) = rw c.in-Some-2.is at c.in_ok-parts_of.ensures.parts in
    parts_ascend (pairs (members_view es)) (map part_view c.in-Some-2.objects.items) (members_ascend es c.in_ok-parts_of.ensures.ordered) parts

pub invariant_of-result-clause-known : goal.invariant_of-result-clause-known
invariant_of-result-clause-known c = rw c.deref.ensures.value at c.in_ok-type_names-in-Some-2.ensures
