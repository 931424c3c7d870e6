use Rattle.std.proofs.Common.{inl}
use Rattle.std.proofs.lemmas.Result.{err_from_is_err_and}
use Rattle.formd_words.proofs.Refused.{refused_weaker}
use Rattle.formd_words.proofs.telling.schema_of.Goals as goal

pub returns-in_err-tell-in-Err-clause-refused : goal.returns-in_err-tell-in-Err-clause-refused
returns-in_err-tell-in-Err-clause-refused g c =
    let p = err_from_is_err_and c.from_residual.result c.from_residual.ensures.1 in
    rw (p.1, p.2) (refused_weaker (λ f both. (both.0, (both.1.0, inl both.1.1, both.1.2))) (λ b. b) c.in_err-tell-in-Err.field-0.0 c.in_err-tell-in-Err.ensures.refused)
