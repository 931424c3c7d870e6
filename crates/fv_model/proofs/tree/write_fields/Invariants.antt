use Rattle.std.proofs.Common.{◌≡◌}
use Rattle.std.specs.List.{AllByRecursion}
use Rattle.serde_json.specs.Data as json
use Rattle.serde_json.specs.View.{members_view}
use Rattle.fv_bundle.specs.Views.{fields_left, object_view}
use Rattle.fv_bundle.specs.Writing.{IsWritten}
use Rattle.fv_model.proofs.InOrder.{added}
use Rattle.fv_model.proofs.tree.write_fields.Given as goal

abbrev pub invariant-loop-name : goal.invariant-loop-name
invariant-loop-name l = record {
  put : added (members_view l.members.entries) (fields_left l.name-iterator) ≡ added json.no_members (object_view l.object).fields;
  written : AllByRecursion (λ f. IsWritten f.1) (fields_left l.name-iterator);
}
