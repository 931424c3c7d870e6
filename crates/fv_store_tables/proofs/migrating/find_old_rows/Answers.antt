use Rattle.std.proofs.Common.{[], arith}
use Rattle.sqlite.specs.Held.{state}
use Rattle.fv_store_tables.proofs.FirstTexts.{old_rows_text}
use Rattle.fv_store_tables.proofs.Bare.{old_rows_bare}
use Rattle.fv_store_tables.proofs.OldRows.{old_shown, old_cause, old_same}
use Rattle.fv_store_tables.proofs.Queries.{query_stays, query_open, query_live}
use Rattle.fv_store_tables.proofs.migrating.find_old_rows.Goals as goal

pub returns-clause-frame : goal.returns-clause-frame
returns-clause-frame g c = record {
  clean = omega (arith, c.query_all.ensures.survives.clean);
  was_open = λ clean live. query_open old_rows_text [] (state g.S.Store c.args.conn.now) (state g.S.Store c.query_all.new.self) c.query_all.result (c.query_all.ensures.ok clean) (c.query_all.ensures.err clean) live;
  counts = c.query_all.ensures.survives.counts;
  closes = c.query_all.ensures.survives.closes;
}

pub returns-clause-open : goal.returns-clause-open
returns-clause-open g c = query_live old_rows_text [] (state g.S.Store c.args.conn.now) (state g.S.Store c.query_all.new.self) c.query_all.result c.query_all.ensures.ok

pub returns-clause-shown : goal.returns-clause-shown
returns-clause-shown g c clean = old_shown (state g.S.Store c.args.conn.now) (state g.S.Store c.query_all.new.self) c.query_all.result (c.query_all.ensures.ok clean)

pub returns-clause-cause : goal.returns-clause-cause
returns-clause-cause g c clean none = old_cause (state g.S.Store c.args.conn.now) (state g.S.Store c.query_all.new.self) none c.query_all.result (c.query_all.ensures.err clean)

pub returns-clause-same : goal.returns-clause-same
returns-clause-same g c clean = old_same (state g.S.Store c.args.conn.now) (state g.S.Store c.query_all.new.self) c.query_all.result (c.query_all.ensures.ok clean)

pub returns-clause-untouched : goal.returns-clause-untouched
returns-clause-untouched g c settled clean =
    query_stays (state g.S.Store c.args.conn.now) (state g.S.Store c.query_all.new.self) (omega (arith, c.query_all.ensures.survives.clean)) settled old_rows_text []
    (old_rows_bare c.args.conn.now.schema) c.query_all.result (c.query_all.ensures.ok clean) (c.query_all.ensures.err clean) clean
