use Rattle.std.proofs.Common.{◌≡◌}
use Rattle.std.specs.List.{find}
use Rattle.serde_json.specs.View.{members_view}
use Rattle.fv_datum.specs.Members.{pairs}
use Rattle.fv_model_fault.specs.Faults.{is_badly_named}
use Rattle.fv_model_fault.proofs.objects.badly_named.Given as goal

abbrev pub invariant-loop-name : goal.invariant-loop-name
invariant-loop-name l = find is_badly_named (pairs (members_view l.name-iterator)) ≡ find is_badly_named (pairs (members_view l.objects.entries))
