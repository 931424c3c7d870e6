use Rattle.std.proofs.Common.{◌++◌, [], ◌∷◌}
use Rattle.std.proofs.lemmas.Result.{err_from_is_err_and, on_err_weaker}
use Rattle.formd_words.proofs.Writes.{breaks_before, breaks_then}
use Rattle.formd_words.proofs.failure.write_named.Goals as goal

pub returns-in_err-write_text-clause-failed : goal.returns-in_err-write_text-clause-failed
returns-in_err-write_text-clause-failed g c =
    let p = err_from_is_err_and c.from_residual.result c.from_residual.ensures.1 in
    rw p.1 (breaks_before g.E.Output.contents g.E.Output.takes g.E.Output.fails _ _ c.args.text.now (c.args.name.now ++ 10 ∷ []) c.in_err-write_text.ensures.failed)

pub returns-in_err-write_text-2-clause-failed : goal.returns-in_err-write_text-2-clause-failed
returns-in_err-write_text-2-clause-failed g c =
    let p = err_from_is_err_and c.from_residual-in_err-write_text-2.result c.from_residual-in_err-write_text-2.ensures.1 in
    rw p.1 (breaks_then g.E.Output.contents g.E.Output.takes g.E.Output.fails _ _ c.args.text.now (c.args.name.now ++ 10 ∷ []) _ c.in_ok-write_text.ensures.told c.in_ok-write_text.ensures.took
    (breaks_before g.E.Output.contents g.E.Output.takes g.E.Output.fails _ _ c.args.name.now (10 ∷ []) c.in_err-write_text-2.ensures.failed))

pub returns-clause-failed : goal.returns-clause-failed
returns-clause-failed g c =
    on_err_weaker c.write_text-3.result (λ broke. breaks_then g.E.Output.contents g.E.Output.takes g.E.Output.fails _ _ c.args.text.now (c.args.name.now ++ 10 ∷ []) _ c.in_ok-write_text.ensures.told c.in_ok-write_text.ensures.took
    (breaks_then g.E.Output.contents g.E.Output.takes g.E.Output.fails _ _ c.args.name.now (10 ∷ []) _ c.in_ok-write_text-2.ensures.told c.in_ok-write_text-2.ensures.took broke)) c.write_text-3.ensures.failed
