use Rattle.std.proofs.Common.{◌≡◌}
use Rattle.std.specs.List.{find, list_any}
use Rattle.serde_json.specs.View.{members_view}
use Rattle.fv_datum.specs.Members.{pairs}
use Rattle.fv_bundle.specs.TypesView.{types_view}
use Rattle.fv_model_fault.specs.Faults.{has_flawed}
use Rattle.fv_model_fault.specs.SearchViews.{sought}
use Rattle.fv_model_fault.proofs.search.Search.place_in_objects.Given as goal

abbrev pub invariant-loop-name : goal.invariant-loop-name
invariant-loop-name l = record {
  any : list_any (has_flawed (sought l.self) (types_view l.types)) (pairs (members_view l.name-iterator)) ≡ list_any (has_flawed (sought l.self) (types_view l.types)) (pairs (members_view l.objects.entries));
  first : find (has_flawed (sought l.self) (types_view l.types)) (pairs (members_view l.name-iterator)) ≡ find (has_flawed (sought l.self) (types_view l.types)) (pairs (members_view l.objects.entries));
}
