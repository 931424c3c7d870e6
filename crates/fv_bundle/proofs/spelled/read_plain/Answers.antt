use Rattle.std.proofs.Common.{◌≡◌, ◌∷◌, [], ◌++◌, ◌+◌, drop, map, Some, sym, ap, ◌∙◌, rules}
use Rattle.std.proofs.lemmas.List.{map-append}
use Rattle.serde_json.specs.View.{view as json_view, items_view as json_items}
use Rattle.fv_datum.specs.Json.{spelled}
use Rattle.fv_datum.specs.Members.{listed, each_some}
use Rattle.fv_datum.specs.View.{view}
use Rattle.fv_datum.proofs.Fronts.{with_front, item_more, item_none}
use Rattle.fv_bundle.specs.Writing.{IsWritten}
use Rattle.fv_bundle.proofs.Spelling.{some_of, part_refused}
use Rattle.fv_bundle.proofs.Writable.{all_seen, list_writable}
use Rattle.fv_bundle.proofs.spelled.read_plain.Goals as goal

pub returns-clause-written : goal.returns-clause-written
returns-clause-written c = list_writable (map view c.loop-item.out.items) (all_seen IsWritten view c.loop-item.out.items c.loop-item.invariant.written)

pub returns-in_err-plain_in-clause-exact : goal.returns-in_err-plain_in-clause-exact
returns-in_err-plain_in-clause-exact c =
    let l = c.loop-item in
    let f = spelled c.args.kind in
    let vs = c.deref-item-items.result.now in
    let v = c.item-item.result in
    part_refused c.from_residual-in_err-plain_in.result (λ v. map view v.items) c.in_err-plain_in.field-0.0 (f (json_view v)) (each_some f (listed (json_items c.args.items.now.items)))
    c.from_residual-in_err-plain_in.ensures.1 c.in_err-plain_in.ensures.exact
    (λ none. sym (ap (λ xs. each_some f (listed (json_items xs))) c.deref-item-items.ensures.value) ∙ sym l.invariant.read
    ∙ item_none f (map view l.out.items) vs l.item-index v c.loop-item-test.true c.item-item.is none)

pub loop-item-preserved : goal.loop-item-preserved
loop-item-preserved c =
    let l = c.loop-item in
    let f = spelled c.args.kind in
    let vs = c.deref-item-items.result.now in
    let v = c.item-item.result in
    let datum = c.in_ok-plain_in.field-0 in
    let front = map view l.out.items in
    let is : f (json_view v) ≡ Some (view datum) = some_of _ _ c.in_ok-plain_in.ensures.exact in
    let moved = item_more f front vs l.item-index v (view datum) c.loop-item-test.true c.item-item.is is in
    let pushed : map view c.push.new.self.items ≡ front ++ view datum ∷ [] = ap (map view) c.in_ok-push.ensures.items ∙ map-append view l.out.items (datum ∷ []) in
    record {
      read = ap (λ ds. with_front ds (each_some f (listed (json_items (drop (l.item-index + 1) vs))))) pushed ∙ sym moved ∙ l.invariant.read;
      written = search rules;
    }
