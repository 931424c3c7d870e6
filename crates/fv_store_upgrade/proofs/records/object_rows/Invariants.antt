use Rattle.std.proofs.Common.{◌≡◌}
use Rattle.fv_datum.specs.Members.{each_some, pairs}
use Rattle.fv_datum.proofs.Fronts.{with_front}
use Rattle.serde_json.specs.View.{members_view}
use Rattle.fv_store_upgrade.specs.Steps.{new_objects_view}
use Rattle.fv_store_upgrade.specs.Upgraded.{object_in}
use Rattle.fv_store_upgrade.proofs.records.object_rows.Given as goal

abbrev pub invariant-loop-name : goal.invariant-loop-name
invariant-loop-name l = with_front (new_objects_view l.rows.items) (each_some object_in (pairs (members_view l.name-iterator))) ≡ each_some object_in (pairs (members_view l.objects.entries))
