use Rattle.std.proofs.Common.{IsUtf8, ◌≡◌, ◌<◌, map, take, length, lit<, sym, ap, subst, ◌∙◌}
use Rattle.std.proofs.lemmas.List.{take_all}
use Rattle.sqlite.specs.Order.{Row, column}
use Rattle.fv_store_tables.proofs.Refusals.{handed_on}
use Rattle.fv_store_tables.proofs.ShownIds.{same_ids}
use Rattle.fv_store_tables.specs.Lists.{id_row}
use Rattle.fv_store_tables.proofs.ShownRows.{one_shown}
use Rattle.fv_store_tables.proofs.listing.ids_in.Goals as goal

pub returns-clause-shown : goal.returns-clause-shown
returns-clause-shown c ids shows =
    let rows = c.args.rows.now in
    let all : take c.loop-row.row-index rows ≡ rows = take_all c.loop-row.row-index rows c.loop-row-test.false in
    same_ids ids c.loop-row.ids.items (ap (map (λ (r : Row). column r 0)) (sym shows) ∙ ap (map (λ (r : Row). column r 0)) (sym all) ∙ c.loop-row.invariant)

pub returns-in_err-id-clause-cause : goal.returns-in_err-id-clause-cause
returns-in_err-id-clause-cause c =
    handed_on _ c.from_residual-in_err-id.result c.in_err-id.field-0.0 c.from_residual-in_err-id.ensures.1
    (λ ids shows texts refused.
    let it = one_shown id_row IsUtf8 c.args.rows.now ids c.loop-row.row-index c.row-item.result c.loop-row-test.true c.row-item.is shows texts in
    c.in_err-id.ensures.kind refused (subst (λ (r : Row). 0 < length r) (sym it.1) (lit< tt)) (it.0, ap (λ (r : Row). column r 0) it.1, it.2))
