use Rattle.std.proofs.Common.{inl, inr}
use Rattle.std.proofs.lemmas.Result.{err_from_is_err_and}
use Rattle.formd_words.proofs.Opened.{undeclared, unread}
use Rattle.formd_words.proofs.judging.judge_file.Goals as goal

pub returns-in_err-declarations-clause-judged : goal.returns-in_err-declarations-clause-judged
returns-in_err-declarations-clause-judged g c =
    let p = err_from_is_err_and c.from_residual.result c.from_residual.ensures.1 in
    rw p.1 (inl (unread _ c.in_err-declarations.field-0.0 p.0 p.2))

pub returns-in_err-judge-clause-judged : goal.returns-in_err-judge-clause-judged
returns-in_err-judge-clause-judged g c =
    let p = err_from_is_err_and c.from_residual-in_err-judge.result c.from_residual-in_err-judge.ensures.1 in
    rw (p.1, p.2) (inl (undeclared _ _ c.in_err-judge.field-0.0 c.in_err-judge.ensures.refused))

pub returns-clause-judged : goal.returns-clause-judged
returns-clause-judged g c =
    let it = c.answer_told.ensures.ends in
    inr (_, c.in_ok-judge.judge, c.answer_told.new.responder, it.0, c.in_ok-judge.ensures.rules, c.in_ok-judge.ensures.declared, it.1, it.2)
