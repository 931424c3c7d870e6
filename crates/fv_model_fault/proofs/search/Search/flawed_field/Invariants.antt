use Rattle.std.proofs.Common.{◌≡◌}
use Rattle.std.specs.List.{find}
use Rattle.serde_json.specs.View.{members_view}
use Rattle.fv_datum.specs.Members.{pairs}
use Rattle.fv_bundle.specs.Types.{fields_view}
use Rattle.fv_model_fault.specs.Faults.{is_flawed}
use Rattle.fv_model_fault.specs.SearchViews.{sought}
use Rattle.fv_model_fault.proofs.search.Search.flawed_field.Given as goal

abbrev pub invariant-loop-name : goal.invariant-loop-name
invariant-loop-name l = find (is_flawed (sought l.self) (fields_view l.fields)) (pairs (members_view l.name-iterator)) ≡ find (is_flawed (sought l.self) (fields_view l.fields)) (pairs (members_view l.given.entries))
