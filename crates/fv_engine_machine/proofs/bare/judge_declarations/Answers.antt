use Rattle.fv_engine_machine.proofs.Recordless.{bare_misdeclared, bare_redeclared}
use Rattle.fv_engine_machine.proofs.Redeclared.{is_decl_memory}
use Rattle.fv_engine_machine.proofs.bare.judge_declarations.Goals as goal

pub returns-in-Ok : goal.returns-in-Ok
returns-in-Ok g c = λ means ds now. bare_redeclared (g.R.RuleSet.known c.args.rules.now) means ds now c.args.text.now _ (rw c.as_bytes.ensures.value at c.in-Ok.ensures.taken)

pub returns-in-Err : goal.returns-in-Err
returns-in-Err g c = λ means ds now. bare_misdeclared (g.R.RuleSet.known c.args.rules.now) means ds now c.args.text.now c.in-Err.fault _
    c.misdeclared.ensures.memory c.misdeclared.ensures.other (rw c.as_bytes.ensures.value at c.in-Err.ensures.refused) (is_decl_memory c.in-Err.fault)
