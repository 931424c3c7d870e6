use Rattle.std.proofs.lemmas.Int.{to_z-of_z}
use mir.Syntax.{w64}
use Rattle.serde_json.specs.View.{view as json_view}
use Rattle.fv_engine_reply.specs.AnswerView.{answer_view}
use Rattle.fv_engine_machine.proofs.Recordless.{bare_told}
use Rattle.fv_engine_machine.proofs.Serving.{short_asked}
use Rattle.fv_engine_machine.proofs.bare.reply_to.Goals as goal

pub returns : goal.returns
returns g c = bare_told (g.R.RuleSet.known c.args.rules.now) g.R.RuleSet.meaning c.args.book.now c.args.now _ (short_asked (json_view c.args.value.now)) (answer_view c.attend-answer.result) _ c.of.ensures
    (rw (to_z-of_z w64 c.args.now c.ranges.now) at c.attend-answer.ensures)
