use Rattle.std.proofs.Common.{[], ◌∷◌}
use Rattle.sqlite.specs.declared.types.Value.TheVariants.{Text}
use Rattle.sqlite.specs.Held.{state}
use Rattle.fv_store_tables.proofs.Texts.{find_text}
use Rattle.fv_store_tables.proofs.Bare.{find_bare}
use Rattle.fv_store_tables.proofs.InsideQueries.{inside_step, inside_keep, query_frame}
use Rattle.fv_store_tables.proofs.Heads.{head_shown, head_cause}
use Rattle.fv_store_tables.proofs.rows.find_head.Goals as goal

pub returns-clause-frame : goal.returns-clause-frame
returns-clause-frame g c =
    query_frame find_text (Text c.args.id.now ∷ []) find_bare g.S.Store c.args.tx.now.conn.now c.query_all.new.self.conn.now c.query_all.result c.query_all.ensures.survives
    (λ clean. rw c.params-to_sql.ensures at (c.query_all.ensures.ok clean)) (λ clean. rw c.params-to_sql.ensures at (c.query_all.ensures.err clean))

pub returns-clause-kept : goal.returns-clause-kept
returns-clause-kept g c clean inside =
    inside_keep find_text (Text c.args.id.now ∷ []) find_bare (state g.S.Store c.args.tx.now.conn.now) (state g.S.Store c.query_all.new.self.conn.now) c.query_all.result
    (rw c.params-to_sql.ensures at (c.query_all.ensures.ok clean)) (rw c.params-to_sql.ensures at (c.query_all.ensures.err clean))

pub returns-clause-done : goal.returns-clause-done
returns-clause-done g c clean inside =
    inside_step find_text (Text c.args.id.now ∷ []) find_bare (state g.S.Store c.args.tx.now.conn.now) (state g.S.Store c.query_all.new.self.conn.now) c.query_all.result inside (rw c.params-to_sql.ensures at (c.query_all.ensures.ok clean))

pub returns-clause-shown : goal.returns-clause-shown
returns-clause-shown g c clean inside =
    head_shown (state g.S.Store c.args.tx.now.conn.now) (state g.S.Store c.query_all.new.self.conn.now) c.args.id.now c.query_all.result (rw c.params-to_sql.ensures at (c.query_all.ensures.ok clean))

pub returns-clause-cause : goal.returns-clause-cause
returns-clause-cause g c clean inside none =
    head_cause (state g.S.Store c.args.tx.now.conn.now) (state g.S.Store c.query_all.new.self.conn.now) inside none c.args.id.now c.query_all.result (rw c.params-to_sql.ensures at (c.query_all.ensures.err clean))
