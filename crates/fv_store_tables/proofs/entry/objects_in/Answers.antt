use Rattle.std.proofs.Common.{refl, ◌≡◌, map, take, sym, ap, ◌∙◌}
use Rattle.std.proofs.lemmas.List.{take_all}
use Rattle.fv_store_tables.specs.Stored.{front, row_view}
use Rattle.fv_store_tables.specs.Stands.{IsTextObject, shown_part}
use Rattle.fv_store_tables.proofs.Queries.{thing_in}
use Rattle.fv_store_tables.proofs.ShownRows.{fronts, one_shown, same_shown}
use Rattle.fv_store_tables.proofs.Refusals.{handed_on}
use Rattle.fv_store_tables.proofs.entry.objects_in.Goals as goal

pub returns-clause-shown : goal.returns-clause-shown
returns-clause-shown c os shows =
    let rows = c.args.rows.now in
    let all : take c.loop-row.row-index rows ≡ rows = take_all c.loop-row.row-index rows c.loop-row-test.false in
    same_shown shown_part thing_in (λ o. refl) row_view os c.loop-row.objects.items (sym (fronts shown_part front (λ o. refl) os) ∙ ap (map front) (sym shows) ∙ ap (map front) (sym all) ∙ c.loop-row.invariant)

pub returns-in_err-read_object-clause-cause : goal.returns-in_err-read_object-clause-cause
returns-in_err-read_object-clause-cause c =
    handed_on _ c.from_residual-in_err-read_object.result c.in_err-read_object.field-0.0 c.from_residual-in_err-read_object.ensures.1
    (λ os shows texts refused.
    let it = one_shown shown_part IsTextObject c.args.rows.now os c.loop-row.row-index c.row-item.result c.loop-row-test.true c.row-item.is shows texts in
    c.in_err-read_object.ensures.cause it.0 it.1 it.2)
