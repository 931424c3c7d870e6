use Rattle.std.proofs.Common.{Err, ap}
use Rattle.std.proofs.lemmas.Result.{err_from_is_err_and}
use Rattle.formd_words.proofs.Answered.{ends_at}
use Rattle.formd_words.proofs.Failed.{serving_failed}
use Rattle.formd_words.proofs.answering.answer_told.Goals as goal

pub returns-in_err-answer_at-clause-failed : goal.returns-in_err-answer_at-clause-failed
returns-in_err-answer_at-clause-failed g c =
    let p = err_from_is_err_and c.from_residual.result c.from_residual.ensures.1 in
    let of_it = c.in_err-answer_at.ensures in
    rw p.1 (serving_failed _ _ _ c.in_err-answer_at.field-0.0 p.0 p.2 (λ is. of_it.unread (ap (λ f. Err f) is)) (λ is. of_it.broke (ap (λ f. Err f) is))
    (λ is. of_it.none (ap (λ f. Err f) is)))

pub returns-in_err-answer_at-clause-ends : goal.returns-in_err-answer_at-clause-ends
returns-in_err-answer_at-clause-ends g c =
    let p = err_from_is_err_and c.from_residual.result c.from_residual.ensures.1 in
    let of_it = c.in_err-answer_at.ensures in
    rw p.1 (Err c.in_err-answer_at.field-0.0, ends_at _ _ g.W.Output _ _ _ _ _ _ _ _ _ _ of_it.ticking of_it.standing, p.2)

pub returns-clause-ends : goal.returns-clause-ends
returns-clause-ends g c =
    let of_it = c.in_ok-answer_at.ensures in
    (_, ends_at _ _ g.W.Output _ _ _ _ _ _ _ _ _ _ of_it.ticking of_it.standing, tt)
