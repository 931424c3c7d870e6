use Rattle.std.proofs.Common.{◌≡◌, Some, length, map, sym, ap, ◌∙◌}
use Rattle.std.proofs.lemmas.List.{length-map}
use Rattle.fv_datum.specs.Data as datum
use Rattle.fv_datum.specs.View.{view, pair_view, items_view, entries_view}
use Rattle.fv_bundle.specs.Types.{type_use_view}
use Rattle.fv_bundle.proofs.Seen.{view-DataList, view-DataMap}
use Rattle.fv_bundle.specs.Held.{items, values}
use Rattle.fv_bundle.specs.Typing.{items_count, entries_count}
use Rattle.fv_bundle.proofs.TypingTells.{items_counted, pairs_counted}
use Rattle.fv_bundle.proofs.typing.+fits.Goals as goal

pub fits-returns-in-Some-items : goal.fits-returns-in-Some-items
fits-returns-in-Some-items t c =
    let v = c.in-List.items in
    let is : view c.args.datum.now ≡ datum.list (items_view v.items) = ap view c.in-List.is ∙ view-DataList v in
    let held : items (type_use_view c.args.type_use.now) ≡ Some (type_use_view c.in-Some-items.held.now) = sym c.in-Some-items.ensures in
    let count : items_count (items_view v.items) ≡ length v.items = items_counted (map view v.items) ∙ length-map v.items view in
    rw (is, held, count) c.list_fits.ensures

pub fits-returns-in-Some-values : goal.fits-returns-in-Some-values
fits-returns-in-Some-values t c =
    let v = c.in-Map.entries in
    let is : view c.args.datum.now ≡ datum.map (entries_view v.items) = ap view c.in-Map.is ∙ view-DataMap v in
    let held : values (type_use_view c.args.type_use.now) ≡ Some (type_use_view c.in-Some-values.held.now) = sym c.in-Some-values.ensures in
    let count : entries_count (entries_view v.items) ≡ length v.items = pairs_counted (map pair_view v.items) ∙ length-map v.items pair_view in
    rw (is, held, count) c.map_fits.ensures
