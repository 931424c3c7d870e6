use Rattle.std.proofs.lemmas.Result.{err_from_is_err_and}
use Rattle.formd_words.proofs.Refused.{declared_in_json, refused_weaker}
use Rattle.formd_words.proofs.comparing.side_of.Goals as goal

pub returns-in_err-schema-clause-refused : goal.returns-in_err-schema-clause-refused
returns-in_err-schema-clause-refused g c =
    let p = err_from_is_err_and c.from_residual.result c.from_residual.ensures.1 in
    rw (p.1, p.2) (refused_weaker (λ f both. both) (λ b. b) c.in_err-schema.field-0.0 c.in_err-schema.ensures.refused)

pub returns-in_err-value-clause-refused : goal.returns-in_err-value-clause-refused
returns-in_err-value-clause-refused g c =
    let p = err_from_is_err_and c.from_residual-in_err-value.result c.from_residual-in_err-value.ensures.1 in
    rw (p.1, p.2) (refused_weaker (λ f none. absurd (declared_in_json _ _ _ c.in_ok-schema.ensures.taken none)) (λ never. absurd never) c.in_err-value.field-0.0 c.in_err-value.ensures.refused)
