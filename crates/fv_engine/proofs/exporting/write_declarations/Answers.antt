use Rattle.fv_engine.specs.ExportSteps.{TellsWrite}
use Rattle.std.proofs.Common.{subst, sym, ◌∙◌}
use Rattle.std.proofs.lemmas.Result.{err_from_is_err_and}
use Rattle.fv_engine.proofs.Exported.{front_none}
use Rattle.fv_engine.proofs.exporting.write_declarations.Goals as goal

pub returns-in_err-line-clause-wrote : goal.returns-in_err-line-clause-wrote
returns-in_err-line-clause-wrote g c =
    let e = err_from_is_err_and c.from_residual.result c.from_residual.ensures.1 in
    rw e.1 ((λ of. c.in_err-line.ensures.line (sym e.2 ∙ of)), front_none _ _)

pub returns-in_err-line-clause-cause : goal.returns-in_err-line-clause-cause
returns-in_err-line-clause-cause g c =
    let e = err_from_is_err_and c.from_residual.result c.from_residual.ensures.1 in
    rw e.1 (subst (TellsWrite g.O.Output.contents g.O.Output.takes g.O.Output.fails c.args.out.now c.args.out.now) (sym e.2) (λ is. absurd (c.in_err-line.ensures.unwritten is)))
