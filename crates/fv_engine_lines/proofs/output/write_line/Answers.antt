use Rattle.std.proofs.lemmas.Result.{err_from_is_err_and, on_err_weaker, on_ok_weaker}
use Rattle.fv_engine_lines.proofs.Writes.{front_whole}
use Rattle.fv_engine_lines.proofs.output.write_line.Goals as goal

pub returns-in_err-write_bytes-clause-err : goal.returns-in_err-write_bytes-clause-err
returns-in_err-write_bytes-clause-err g c =
    let p = err_from_is_err_and c.from_residual.result c.from_residual.ensures.1 in
    rw p.1 c.in_err-write_bytes.ensures.err

pub returns-clause-ok : goal.returns-clause-ok
returns-clause-ok g c = on_ok_weaker c.flush.result (λ flushed. (_, c.in_ok-write_bytes.ensures.ok, c.in_ok-write_bytes.ensures.took, c.flush.ensures.kept, flushed)) c.flush.ensures.ok

pub returns-clause-err : goal.returns-clause-err
returns-clause-err g c = on_err_weaker c.flush.result (λ failed. (_, front_whole _ _ _ c.in_ok-write_bytes.ensures.ok, c.in_ok-write_bytes.ensures.took, c.flush.ensures.kept, failed)) c.flush.ensures.err
