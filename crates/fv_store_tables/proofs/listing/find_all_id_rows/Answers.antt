use Rattle.std.proofs.Common.{[], ◌∷◌, pos, arith}
use Rattle.sqlite.specs.declared.types.Value.TheVariants.{Int, Text}
use Rattle.sqlite.specs.Held.{state}
use Rattle.fv_store_tables.specs.Lists.{HasRecord}
use Rattle.fv_store_tables.proofs.Texts.{all_ids_text}
use Rattle.fv_store_tables.proofs.Ids.{ids_shown, ids_cause, of_all}
use Rattle.fv_store_tables.proofs.Queries.{kept_stays, query_holds, query_open, query_live}
use Rattle.fv_store_tables.proofs.listing.find_all_id_rows.Goals as goal

pub returns-clause-frame : goal.returns-clause-frame
returns-clause-frame g c = record {
  clean = omega (arith, c.query_all.ensures.survives.clean);
  was_open = λ clean live. query_open all_ids_text (Text c.args.above.now ∷ Int (pos c.args.limit) ∷ []) (state g.S.Store c.args.conn.now) (state g.S.Store c.query_all.new.self) c.query_all.result
      (rw (c.params-to_sql.ensures, c.params-to_sql-2.ensures) at (c.query_all.ensures.ok clean))
      (rw (c.params-to_sql.ensures, c.params-to_sql-2.ensures) at (c.query_all.ensures.err clean)) live;
  counts = c.query_all.ensures.survives.counts;
  closes = c.query_all.ensures.survives.closes;
}

pub returns-clause-open : goal.returns-clause-open
returns-clause-open g c =
    query_live all_ids_text (Text c.args.above.now ∷ Int (pos c.args.limit) ∷ []) (state g.S.Store c.args.conn.now) (state g.S.Store c.query_all.new.self) c.query_all.result
    (λ clean. rw (c.params-to_sql.ensures, c.params-to_sql-2.ensures) at (c.query_all.ensures.ok clean))

pub returns-clause-shown : goal.returns-clause-shown
returns-clause-shown g c clean =
    let finds = of_all c.args.above.now c.args.limit in
    ids_shown all_ids_text (Text c.args.above.now ∷ Int (pos c.args.limit) ∷ []) c.args.above.now c.args.limit HasRecord finds (state g.S.Store c.args.conn.now) (state g.S.Store c.query_all.new.self)
    (omega (arith, c.query_all.ensures.survives.clean)) c.query_all.result
    (rw (c.params-to_sql.ensures, c.params-to_sql-2.ensures) at (c.query_all.ensures.ok clean))

pub returns-clause-stays : goal.returns-clause-stays
returns-clause-stays g c d m keeps clean =
    let finds = of_all c.args.above.now c.args.limit in
    query_holds all_ids_text (Text c.args.above.now ∷ Int (pos c.args.limit) ∷ []) (state g.S.Store c.args.conn.now) (state g.S.Store c.query_all.new.self) finds.means.plain
    (omega (arith, c.query_all.ensures.survives.clean)) c.query_all.result
    (rw (c.params-to_sql.ensures, c.params-to_sql-2.ensures) at (c.query_all.ensures.ok clean))
    (rw (c.params-to_sql.ensures, c.params-to_sql-2.ensures) at (c.query_all.ensures.err clean)) d m keeps clean

pub returns-clause-cause : goal.returns-clause-cause
returns-clause-cause g c clean none =
    let finds = of_all c.args.above.now c.args.limit in
    ids_cause all_ids_text (Text c.args.above.now ∷ Int (pos c.args.limit) ∷ []) c.args.above.now c.args.limit HasRecord finds (state g.S.Store c.args.conn.now) (state g.S.Store c.query_all.new.self)
    (omega (arith, c.query_all.ensures.survives.clean)) c.query_all.result none
    (rw (c.params-to_sql.ensures, c.params-to_sql-2.ensures) at (c.query_all.ensures.err clean))

pub returns-clause-untouched : goal.returns-clause-untouched
returns-clause-untouched g c settled d m keeps clean =
    let finds = of_all c.args.above.now c.args.limit in
    kept_stays all_ids_text (Text c.args.above.now ∷ Int (pos c.args.limit) ∷ []) (state g.S.Store c.args.conn.now) (state g.S.Store c.query_all.new.self) finds.means.plain
    (omega (arith, c.query_all.ensures.survives.clean)) settled c.query_all.result
    (rw (c.params-to_sql.ensures, c.params-to_sql-2.ensures) at (c.query_all.ensures.ok clean))
    (rw (c.params-to_sql.ensures, c.params-to_sql-2.ensures) at (c.query_all.ensures.err clean)) d m keeps clean
