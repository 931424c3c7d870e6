use Rattle.std.proofs.Common.{◌≡◌, [], map, true, drop, ap, rules, arith}
use Rattle.std.proofs.lemmas.List.{drop_all}
use Rattle.std.specs.List.{AllByRecursion}
use Rattle.fv_datum.specs.Data as datum
use Rattle.fv_datum.specs.Data.{items_of, entries_of}
use Rattle.fv_datum.specs.View.{view, pair_view, items_view, entries_view}
use Rattle.fv_datum.specs.Written.{keys_fit}
use Rattle.fv_bundle.specs.Writing.{IsWritten}
use Rattle.fv_model.proofs.Containers.{list_written, map_written, is_written, json_is, closes_array, entry_named}
use Rattle.fv_model.proofs.InOrder.{closes}
use Rattle.fv_model.proofs.text.+write.Goals as goal

pub write_items-returns-clause-written : goal.write_items-returns-clause-written
write_items-returns-clause-written t c =
    let l = c.loop-item in
    let xs = c.deref-item-items.result.now in
    let none : drop l.item-index xs ≡ [] = drop_all l.item-index xs (omega arith) in
    let left : AllByRecursion IsWritten (map view (drop l.item-index xs)) = rw none tt in
    let all : AllByRecursion IsWritten (map view c.args.items.now.items) = rw c.deref-item-items.ensures.value at (l.invariant.written left) in
    is_written (datum.list (items_view c.args.items.now.items)) _ (list_written (map view c.args.items.now.items) all)

pub write_items-returns-clause-put : goal.write_items-returns-clause-put
write_items-returns-clause-put t c =
    let l = c.loop-item in
    let xs = c.deref-item-items.result.now in
    let ds = map view xs in
    let none : drop l.item-index xs ≡ [] = drop_all l.item-index xs (omega arith) in
    let left : AllByRecursion IsWritten (map view (drop l.item-index xs)) = rw none tt in
    let all = l.invariant.written left in
    let json = json_is (datum.list (items_of ds)) _ (list_written ds all) in
    rw (← c.deref-item-items.ensures.value, json) (closes_array _ _ l.out.tokens _ ds (map view (drop l.item-index xs)) c.in_ok-begin_array.ensures.ok l.invariant.put (ap (map view) none) c.in_ok-end_array.ensures.ok, search rules)

pub write_entries-returns-clause-written : goal.write_entries-returns-clause-written
write_entries-returns-clause-written t c =
    let l = c.loop-entry in
    let xs = c.deref-entry-items.result.now in
    let none : drop l.entry-index xs ≡ [] = drop_all l.entry-index xs (omega arith) in
    let left : AllByRecursion (λ e. IsWritten e.1) (map pair_view (drop l.entry-index xs)) = rw none tt in
    let all : AllByRecursion (λ e. IsWritten e.1) (map pair_view c.args.entries.now.items) = rw c.deref-entry-items.ensures.value at (l.invariant.written left) in
    let fit : keys_fit (entries_view c.args.entries.now.items) ≡ true = search rules in
    is_written (datum.map (entries_view c.args.entries.now.items)) _ (map_written (map pair_view c.args.entries.now.items) fit all)

pub write_entries-returns-clause-put : goal.write_entries-returns-clause-put
write_entries-returns-clause-put t c =
    let l = c.loop-entry in
    let xs = c.deref-entry-items.result.now in
    let es = map pair_view xs in
    let none : drop l.entry-index xs ≡ [] = drop_all l.entry-index xs (omega arith) in
    let left : AllByRecursion (λ e. IsWritten e.1) (map pair_view (drop l.entry-index xs)) = rw none tt in
    let all = l.invariant.written left in
    let fit : keys_fit (entries_view c.args.entries.now.items) ≡ true = search rules in
    let fit_all : keys_fit (entries_of es) ≡ true = rw c.deref-entry-items.ensures.value fit in
    let json = json_is (datum.map (entries_of es)) _ (map_written es fit_all all) in
    rw (← c.deref-entry-items.ensures.value, json)
    (closes _ _ l.out.tokens _ (map entry_named es) (map entry_named (map pair_view (drop l.entry-index xs))) c.in_ok-begin_object.ensures.ok l.invariant.put (ap (λ ys. map entry_named (map pair_view ys)) none) c.in_ok-end_object.ensures.ok, search rules)
