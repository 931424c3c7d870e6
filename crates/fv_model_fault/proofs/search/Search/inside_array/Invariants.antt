use Rattle.std.proofs.Common.{◌≡◌, Some, drop, if◌then◌else◌, None}
use Rattle.std.specs.List.{list_any}
use Rattle.serde_json.specs.View.{view as json_view, items_view}
use Rattle.fv_datum.specs.Members.{listed}
use Rattle.fv_first.specs.First.{first_from, first_where}
use Rattle.fv_bundle.specs.Flaws.{items_in}
use Rattle.fv_bundle.specs.Types.{type_use_view}
use Rattle.fv_model_fault.specs.SearchViews.{sought}
use Rattle.fv_model_fault.proofs.search.Search.inside_array.Given as goal

abbrev pub invariant-loop-index : goal.invariant-loop-index
invariant-loop-index l = record {
  any : list_any (sought l.self (Some (type_use_view l.held))) (listed (items_view (drop l.index l.item-items))) ≡ list_any (sought l.self (Some (type_use_view l.held))) (items_in (json_view l.value));
  first : first_from (λ n x. if sought l.self (Some (type_use_view l.held)) x then Some n else None) l.index (listed (items_view (drop l.index l.item-items)))
      ≡ first_where (sought l.self (Some (type_use_view l.held))) (items_in (json_view l.value));
  placed : drop l.index (items_in (json_view l.value)) ≡ listed (items_view (drop l.index l.item-items));
}
