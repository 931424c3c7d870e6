use Rattle.std.proofs.Common.{[], arith}
use Rattle.sqlite.specs.Held.{state}
use Rattle.fv_store_tables.specs.About.{about_query}
use Rattle.fv_store_tables.proofs.Bare.{read_bare}
use Rattle.fv_store_tables.proofs.Abouts.{read_first, read_shown, read_cause}
use Rattle.fv_store_tables.proofs.Queries.{query_stays, query_open, query_live}
use Rattle.fv_store_tables.proofs.about.read_about.Goals as goal

pub returns-clause-frame : goal.returns-clause-frame
returns-clause-frame g c = record {
  clean = omega (arith, c.query_all.ensures.survives.clean);
  was_open = λ clean live. query_open about_query [] (state g.S.Store c.args.conn.now) (state g.S.Store c.query_all.new.self) c.query_all.result (c.query_all.ensures.ok clean) (c.query_all.ensures.err clean) live;
  counts = c.query_all.ensures.survives.counts;
  closes = c.query_all.ensures.survives.closes;
}

pub returns-clause-open : goal.returns-clause-open
returns-clause-open g c = query_live about_query [] (state g.S.Store c.args.conn.now) (state g.S.Store c.query_all.new.self) c.query_all.result c.query_all.ensures.ok

pub returns-clause-shown : goal.returns-clause-shown
returns-clause-shown g c clean = read_shown (state g.S.Store c.args.conn.now) (state g.S.Store c.query_all.new.self) c.query_all.result (c.query_all.ensures.ok clean)

pub returns-clause-untouched : goal.returns-clause-untouched
returns-clause-untouched g c settled clean =
    query_stays (state g.S.Store c.args.conn.now) (state g.S.Store c.query_all.new.self) (omega (arith, c.query_all.ensures.survives.clean)) settled about_query []
    (read_bare c.args.conn.now.schema) c.query_all.result (c.query_all.ensures.ok clean) (c.query_all.ensures.err clean) clean

pub returns-clause-cause : goal.returns-clause-cause
returns-clause-cause g c clean none = read_cause (state g.S.Store c.args.conn.now) (state g.S.Store c.query_all.new.self) none c.query_all.result (c.query_all.ensures.err clean)

pub returns-clause-first : goal.returns-clause-first
returns-clause-first g c clean = read_first (state g.S.Store c.args.conn.now) (state g.S.Store c.query_all.new.self) c.query_all.result (c.query_all.ensures.ok clean)
