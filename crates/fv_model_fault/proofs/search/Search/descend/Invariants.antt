use Rattle.std.proofs.Common.{◌≡◌, map, Some, true}
use Rattle.serde_json.specs.View.{view as json_view}
use Rattle.fv_bundle.specs.Types.{nested, type_use_view}
use Rattle.fv_model_fault.specs.SearchViews.{sought}
use Rattle.fv_model_fault.specs.Sought.{LeadsTo}
use Rattle.fv_model_fault.specs.Views.{inner_view}
use Rattle.fv_model_fault.proofs.search.Search.descend.Given as goal

abbrev pub invariant-inward : goal.invariant-inward
invariant-inward l = record {
  led : LeadsTo (sought l.self) (Some (type_use_view l.fn.type_use)) (json_view l.fn.value) (map inner_view l.steps.items) (Some (type_use_view l.at)) (json_view l.inner);
  flawed : sought l.self (Some (type_use_view l.at)) (json_view l.inner) ≡ true;
}

abbrev pub decreases-inward : goal.decreases-inward
decreases-inward l = nested (type_use_view l.at)
