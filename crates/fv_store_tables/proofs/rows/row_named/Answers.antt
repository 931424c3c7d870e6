use Rattle.std.proofs.Common.{rules, sym, ◌∙◌}
use Rattle.std.proofs.lemmas.Fn.{always_returns_same}
use Rattle.std.proofs.lemmas.Slice.Eq.{bytes_eq-Decides}
use Rattle.fv_store_tables.proofs.Named.{at_has, handed, row_beside, row_met}
use Rattle.fv_store_tables.proofs.rows.row_named.Goals as goal

pub returns-in-Ok : goal.returns-in-Ok
returns-in-Ok c =
    let name = c.args.name.now in
    let met = c.in-Ok.ensures.position (row_beside name) (always_returns_same _ _ _ (λ a r g called. search (rules, handed name))) in
    row_met name c.args.rows.now c.in-Ok.at _ c.in-Ok.ensures.bound met

pub returns-then-eq : goal.returns-then-eq
returns-then-eq c = (
  at_has c.args.rows.now c.loop-row.row-index _ c.loop-row-test.true,
  (bytes_eq-Decides _ c.args.name.now).0 (sym c.eq.ensures ∙ c.if-eq.true),
)
