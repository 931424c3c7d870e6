use Rattle.std.proofs.Common.{sym}
use Rattle.fv_engine_machine.proofs.Recordless.{bare_listed, bare_unlisted}
use Rattle.fv_engine_machine.proofs.bare.list_none.Goals as goal

pub returns-in-None : goal.returns-in-None
returns-in-None c = λ means now after limit. bare_unlisted means c.args.schema.now now c.args.form.now after limit (sym c.in-None.ensures)

pub returns-in-Some : goal.returns-in-Some
returns-in-Some c = λ means now after limit. rw c.new.ensures.items (bare_listed means c.args.schema.now now c.args.form.now after limit _ (sym c.in-Some.ensures))
