use Rattle.std.proofs.Common.{[], ◌∷◌, subst}
use Rattle.std.proofs.lemmas.Int.{to_z-of_z}
use mir.Syntax.{w64}
use Rattle.fv_engine_command.specs.CommandView.{part_view}
use Rattle.fv_engine_command.specs.Commands.{alone}
use Rattle.fv_engine_machine.specs.Judges.{ChangesBare}
use Rattle.fv_engine_machine.specs.Step.{done_by}
use Rattle.fv_engine_machine.proofs.Changes.{by_itself}
use Rattle.fv_engine_reply.specs.AnswerView.{answer_view}
use Rattle.fv_engine_reply.specs.declared.answer.Done.{Done}
use Rattle.fv_engine_machine.proofs.bare.judge_alone.Goals as goal

pub returns : goal.returns
returns g c =
    let part = part_view c.args.part in
    let judged = rw (to_z-of_z w64 c.args.now c.ranges.now) at c.judge_parts.ensures in
    let told : ChangesBare g.R.RuleSet.meaning c.args.book.now c.args.now (part ∷ []) (done_by part) (answer_view c.judge_parts.result) =
    subst (λ (d : Done). ChangesBare g.R.RuleSet.meaning c.args.book.now c.args.now (part ∷ []) d (answer_view c.judge_parts.result)) c.done_by-done.ensures judged in
    told (alone part) (by_itself part)
