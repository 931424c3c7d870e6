use Rattle.fv_explain_over.proofs.AddLemmas.{inserted}
use Rattle.fv_explain_over.proofs.differing.add.Goals as goal

pub returns : goal.returns
returns c = inserted c.args.found.now c.insert.new.self c.args.place c.args.change c.in_ok-insert.ensures.entries
