use Rattle.std.proofs.Common.{inl, inr}
use Rattle.std.proofs.lemmas.Result.{err_from_is_err_and}
use Rattle.formd_words.proofs.serving.serve_files.Goals as goal

pub returns-in_err-engine-clause-served : goal.returns-in_err-engine-clause-served
returns-in_err-engine-clause-served g c =
    let p = err_from_is_err_and c.from_residual.result c.from_residual.ensures.1 in
    rw (p.1, p.2) (inl c.in_err-engine.ensures.refused)

pub returns-clause-served : goal.returns-clause-served
returns-clause-served g c =
    let it = c.answer_told-served.ensures.ends in
    inr (c.in_ok-engine.engine, c.answer_told-served.new.responder, it.0, c.in_ok-engine.ensures.declared.0, c.in_ok-engine.ensures.declared.1, it.1, it.2)
