use Rattle.std.proofs.Common.{◌≡◌}
use Rattle.std.specs.List.{find}
use Rattle.serde_json.specs.View.{members_view}
use Rattle.fv_datum.specs.Members.{pairs}
use Rattle.fv_bundle.specs.TypesView.{types_view}
use Rattle.fv_model_fault.specs.Faults.{is_untyped}
use Rattle.fv_model_fault.proofs.objects.untyped.Given as goal

abbrev pub invariant-loop-name : goal.invariant-loop-name
invariant-loop-name l = find (is_untyped (types_view l.types)) (pairs (members_view l.name-iterator)) ≡ find (is_untyped (types_view l.types)) (pairs (members_view l.objects.entries))
