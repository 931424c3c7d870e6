use Rattle.std.proofs.lemmas.Result.{err_from_is_err_and}
use Rattle.formd_words.proofs.Opened.{closed_start, unread_start, unstarted}
use Rattle.formd_words.proofs.serving.open_engine.Goals as goal

pub returns-in_err-declarations-clause-refused : goal.returns-in_err-declarations-clause-refused
returns-in_err-declarations-clause-refused g c =
    let p = err_from_is_err_and c.from_residual.result c.from_residual.ensures.1 in
    rw p.1 (unread_start _ c.in_err-declarations.field-0.0 p.0 p.2)

pub returns-in_err-absent-clause-refused : goal.returns-in_err-absent-clause-refused
returns-in_err-absent-clause-refused g c =
    let p = err_from_is_err_and c.from_residual-in_err-absent.result c.from_residual-in_err-absent.ensures.1 in
    rw p.1 (closed_start _ c.in_err-absent.field-0.0 p.0 p.2)

pub returns-in_err-connection-clause-refused : goal.returns-in_err-connection-clause-refused
returns-in_err-connection-clause-refused g c =
    let p = err_from_is_err_and c.from_residual-in_err-connection.result c.from_residual-in_err-connection.ensures.1 in
    rw p.1 (closed_start _ c.in_err-connection.field-0.0 p.0 p.2)

pub returns-clause-refused : goal.returns-clause-refused
returns-clause-refused g c = unstarted _ _ _ _ c.in-Err.failure c.in-Err.ensures.refused
