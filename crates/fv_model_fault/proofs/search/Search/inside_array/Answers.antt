use Rattle.std.proofs.Common.{◌≡◌, ◌+◌, drop, Some, true, false, ◌∙◌, rules}
use Rattle.std.specs.List.{list_any}
use Rattle.serde_json.specs.View.{view as json_view, items_view}
use Rattle.fv_datum.specs.Members.{listed}
use Rattle.fv_datum.proofs.Fronts.{listed_turn}
use Rattle.fv_first.specs.First.{first_where}
use Rattle.fv_bundle.specs.Flaws.{items_in}
use Rattle.fv_bundle.specs.Types.{type_use_view}
use Rattle.fv_model_fault.specs.SearchViews.{sought}
use Rattle.fv_model_fault.proofs.Finds.{any_past, at_front, drop_more, where_here, where_past}
use Rattle.fv_model_fault.proofs.search.Search.inside_array.Goals as goal

pub returns-then-branch-clause-found : goal.returns-then-branch-clause-found
returns-then-branch-clause-found c =
    let l = c.loop-index in
    let test = sought c.args.self.now (Some (type_use_view c.args.held.now)) in
    let all = items_in (json_view c.args.value.now) in
    let vs = c.deref-item-items.result.now in
    let item = c.item-item.result in
    let left = listed (items_view (drop l.index vs)) in
    let rest = listed (items_view (drop (l.index + 1) vs)) in
    let turn = listed_turn vs l.index item c.loop-index-test.true c.item-item.is in
    let flawed : sought c.args.self.now (Some (type_use_view c.args.held.now)) (json_view item) ≡ true = search rules in
    let first : first_where test all ≡ Some l.index = where_here test l.index (json_view item) rest left (first_where test all) turn flawed l.invariant.first in
    λ u e. ((e, first, at_front all l.index (json_view item) rest (l.invariant.placed ∙ turn)), flawed)

pub loop-index-preserved : goal.loop-index-preserved
loop-index-preserved c =
    let l = c.loop-index in
    let test = sought c.args.self.now (Some (type_use_view c.args.held.now)) in
    let all = items_in (json_view c.args.value.now) in
    let vs = c.deref-item-items.result.now in
    let item = c.item-item.result in
    let left = listed (items_view (drop l.index vs)) in
    let rest = listed (items_view (drop (l.index + 1) vs)) in
    let turn = listed_turn vs l.index item c.loop-index-test.true c.item-item.is in
    let fits : sought c.args.self.now (Some (type_use_view c.args.held.now)) (json_view item) ≡ false = search rules in
    record {
      any = any_past test (json_view item) rest left (list_any test all) turn fits l.invariant.any;
      first = where_past test l.index (json_view item) rest left (first_where test all) turn fits l.invariant.first;
      placed = drop_more all l.index (json_view item) rest (l.invariant.placed ∙ turn);
    }
