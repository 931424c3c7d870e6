use Rattle.std.proofs.Common.{refl}
use Rattle.fv_engine.proofs.Exported.{front_kept}
use Rattle.fv_engine.proofs.exporting.write_all.Goals as goal

pub returns-in-Err-clause-wrote : goal.returns-in-Err-clause-wrote
returns-in-Err-clause-wrote g c = (refl, front_kept _ _ _ _ c.in-Err.ensures.err.1 c.in-Err.ensures.err.3)

pub returns-in-Ok-clause-grew : goal.returns-in-Ok-clause-grew
returns-in-Ok-clause-grew g c = (c.args.bytes.now, c.in-Ok.ensures.ok, c.in-Ok.ensures.took)

pub returns-in-Err-clause-cause : goal.returns-in-Err-clause-cause
returns-in-Err-clause-cause g c = λ is. (c.args.bytes.now, c.in-Err.ensures.err)
