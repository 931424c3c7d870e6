use Rattle.std.proofs.Common.{map, option_map, sym, ap, ◌∙◌}
use Rattle.std.proofs.lemmas.List.{map-append}
use Rattle.fv_store.specs.ReadRows.{read_view}
use Rattle.fv_store.proofs.RowsRead.{row_more}
use Rattle.fv_store.proofs.stored.read_rows.Goals as goal

pub loop-row-preserved : goal.loop-row-preserved
loop-row-preserved c =
    let l = c.loop-row in
    let moved = row_more (map read_view l.read.items) c.args.rows.now l.row-index _ (read_view c.in-Some.row) c.loop-row-test.true (sym c.in_ok-read_row.ensures ∙ ap (option_map read_view) c.in-Some.is) in
    rw (c.in_ok-push-in-Some.ensures.items, map-append) (sym moved ∙ l.invariant)
