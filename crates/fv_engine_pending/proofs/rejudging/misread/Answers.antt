use Rattle.fv_engine_pending.proofs.rejudging.misread.Goals as goal

pub returns-in_default : goal.returns-in_default
returns-in_default c ds w reads = c.unfit.ensures ds w (reads c.in_default.not-Memory)
