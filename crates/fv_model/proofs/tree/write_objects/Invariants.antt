use Rattle.std.proofs.Common.{◌≡◌, map}
use Rattle.serde_json.specs.Data as json
use Rattle.serde_json.specs.View.{members_view}
use Rattle.fv_bundle.specs.Views.{named_view, objects_view}
use Rattle.fv_model.proofs.InOrder.{objects_added}
use Rattle.fv_model.proofs.tree.write_objects.Given as goal

abbrev pub invariant-loop-name : goal.invariant-loop-name
invariant-loop-name l = objects_added (members_view l.members.entries) (map named_view l.name-iterator) ≡ objects_added json.no_members (objects_view l.objects)
