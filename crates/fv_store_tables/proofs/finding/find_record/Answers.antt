use Rattle.std.proofs.Common.{[], ◌∷◌, arith}
use Rattle.sqlite.specs.declared.types.Value.TheVariants.{Text}
use Rattle.sqlite.specs.Held.{state}
use Rattle.fv_store_tables.proofs.Texts.{find_text, find_plain}
use Rattle.fv_store_tables.proofs.Queries.{find_shown, none_found, kept_stays, query_holds, query_same, query_open, query_live, find_cause}
use Rattle.fv_store_tables.proofs.finding.find_record.Goals as goal

pub returns-clause-frame : goal.returns-clause-frame
returns-clause-frame g c = record {
  clean = omega (arith, c.query_all.ensures.survives.clean);
  was_open = λ clean live. query_open find_text (Text c.args.id.now ∷ []) (state g.S.Store c.args.conn.now) (state g.S.Store c.query_all.new.self) c.query_all.result
      (rw c.params-to_sql.ensures at (c.query_all.ensures.ok clean)) (rw c.params-to_sql.ensures at (c.query_all.ensures.err clean)) live;
  counts = c.query_all.ensures.survives.counts;
  closes = c.query_all.ensures.survives.closes;
}

pub returns-clause-open : goal.returns-clause-open
returns-clause-open g c =
    query_live find_text (Text c.args.id.now ∷ []) (state g.S.Store c.args.conn.now) (state g.S.Store c.query_all.new.self) c.query_all.result (λ clean. rw c.params-to_sql.ensures at (c.query_all.ensures.ok clean))

pub returns-clause-shown : goal.returns-clause-shown
returns-clause-shown g c clean =
    find_shown (state g.S.Store c.args.conn.now) (state g.S.Store c.query_all.new.self) (omega (arith, c.query_all.ensures.survives.clean)) c.args.id.now c.query_all.result
    (rw c.params-to_sql.ensures at (c.query_all.ensures.ok clean))

pub returns-clause-stays : goal.returns-clause-stays
returns-clause-stays g c d m keeps clean =
    query_holds find_text (Text c.args.id.now ∷ []) (state g.S.Store c.args.conn.now) (state g.S.Store c.query_all.new.self) find_plain (omega (arith, c.query_all.ensures.survives.clean)) c.query_all.result
    (rw c.params-to_sql.ensures at (c.query_all.ensures.ok clean)) (rw c.params-to_sql.ensures at (c.query_all.ensures.err clean)) d m keeps clean

pub returns-clause-cause : goal.returns-clause-cause
returns-clause-cause g c clean none =
    find_cause (state g.S.Store c.args.conn.now) (state g.S.Store c.query_all.new.self) (omega (arith, c.query_all.ensures.survives.clean)) none c.args.id.now c.query_all.result
    (rw c.params-to_sql.ensures at (c.query_all.ensures.err clean))

pub returns-clause-same : goal.returns-clause-same
returns-clause-same g c clean =
    query_same find_text (Text c.args.id.now ∷ []) (state g.S.Store c.args.conn.now) (state g.S.Store c.query_all.new.self) find_plain (omega (arith, c.query_all.ensures.survives.clean)) c.query_all.result
    (rw c.params-to_sql.ensures at (c.query_all.ensures.ok clean))

pub returns-clause-untouched : goal.returns-clause-untouched
returns-clause-untouched g c settled d m keeps clean =
    kept_stays find_text (Text c.args.id.now ∷ []) (state g.S.Store c.args.conn.now) (state g.S.Store c.query_all.new.self) find_plain (omega (arith, c.query_all.ensures.survives.clean)) settled c.query_all.result
    (rw c.params-to_sql.ensures at (c.query_all.ensures.ok clean)) (rw c.params-to_sql.ensures at (c.query_all.ensures.err clean)) d m keeps clean

pub returns-clause-none : goal.returns-clause-none
returns-clause-none g c clean =
    none_found (state g.S.Store c.args.conn.now) (state g.S.Store c.query_all.new.self) c.args.id.now c.query_all.result
    (rw c.params-to_sql.ensures at (c.query_all.ensures.ok clean))
