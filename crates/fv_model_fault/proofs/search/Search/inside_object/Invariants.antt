use Rattle.std.proofs.Common.{◌≡◌, Some}
use Rattle.std.specs.List.{find, list_any}
use Rattle.serde_json.specs.View.{view as json_view, members_view}
use Rattle.fv_datum.specs.Members.{pairs}
use Rattle.fv_bundle.specs.Flaws.{members_in}
use Rattle.fv_bundle.specs.Types.{type_use_view}
use Rattle.fv_model_fault.specs.SearchViews.{sought}
use Rattle.fv_model_fault.proofs.search.Search.inside_object.Given as goal

abbrev pub invariant-loop-name : goal.invariant-loop-name
invariant-loop-name l = record {
  any : list_any (λ m. sought l.self (Some (type_use_view l.held)) m.1) (pairs (members_view l.name-iterator)) ≡ list_any (λ m. sought l.self (Some (type_use_view l.held)) m.1) (members_in (json_view l.value));
  first : find (λ m. sought l.self (Some (type_use_view l.held)) m.1) (pairs (members_view l.name-iterator)) ≡ find (λ m. sought l.self (Some (type_use_view l.held)) m.1) (members_in (json_view l.value));
}
