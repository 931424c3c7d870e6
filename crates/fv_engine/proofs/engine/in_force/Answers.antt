use Rattle.fv_engine.proofs.Openings.{differs, of_text}
use Rattle.fv_engine_machine.proofs.Redeclared.{is_decl_memory}
use Rattle.fv_engine.proofs.engine.in_force.Goals as goal

pub returns-clause-refused : goal.returns-clause-refused
returns-clause-refused g c = (
  λ is. differs c.args.text.now c.args.declarations.now _ c.eq.ensures c.if-eq.false is,
  of_text c.in-Err.fault c.declarations_fault.result _ c.declarations_fault.ensures.memory c.declarations_fault.ensures.other c.in-Err.ensures.refused (is_decl_memory c.in-Err.fault),
)
