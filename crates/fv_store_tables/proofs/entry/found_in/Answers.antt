use Rattle.std.proofs.Common.{refl, ◌≡◌, map, take, sym, ap, ◌∙◌}
use Rattle.std.proofs.lemmas.List.{take_all}
use Rattle.fv_store_tables.specs.Stored.{front_four}
use Rattle.fv_store_tables.specs.Changes.{found_view}
use Rattle.fv_store_tables.specs.Stands.{IsTextRow, shown_row}
use Rattle.fv_store_tables.proofs.Parts.{row_in}
use Rattle.fv_store_tables.proofs.ShownRows.{fronts, one_shown, same_shown}
use Rattle.fv_store_tables.proofs.Refusals.{handed_on}
use Rattle.fv_store_tables.proofs.entry.found_in.Goals as goal

pub returns-clause-shown : goal.returns-clause-shown
returns-clause-shown c rs shows =
    let rows = c.args.rows.now in
    let all : take c.loop-row.row-index rows ≡ rows = take_all c.loop-row.row-index rows c.loop-row-test.false in
    same_shown shown_row row_in (λ r. refl) found_view rs c.loop-row.found.items (sym (fronts shown_row front_four (λ r. refl) rs) ∙ ap (map front_four) (sym shows) ∙ ap (map front_four) (sym all) ∙ c.loop-row.invariant)

pub returns-in_err-read_found-clause-cause : goal.returns-in_err-read_found-clause-cause
returns-in_err-read_found-clause-cause c =
    handed_on _ c.from_residual-in_err-read_found.result c.in_err-read_found.field-0.0 c.from_residual-in_err-read_found.ensures.1
    (λ rs shows texts refused.
    let it = one_shown shown_row IsTextRow c.args.rows.now rs c.loop-row.row-index c.row-item.result c.loop-row-test.true c.row-item.is shows texts in
    c.in_err-read_found.ensures.cause it.0 it.1 it.2 refused)
