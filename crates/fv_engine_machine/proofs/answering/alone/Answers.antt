use Rattle.std.proofs.Common.{[], ◌∷◌, subst}
use Rattle.std.proofs.lemmas.Int.{to_z-of_z}
use mir.Syntax.{w64}
use Rattle.fv_store.specs.Stock.{stock_state as state}
use Rattle.fv_engine_command.specs.CommandView.{part_view}
use Rattle.fv_engine_command.specs.Commands.{alone}
use Rattle.fv_engine_machine.specs.Keeping.{ChangesSo}
use Rattle.fv_engine_machine.specs.Step.{done_by}
use Rattle.fv_engine_machine.proofs.Becoming.{weaker}
use Rattle.fv_engine_machine.proofs.Changes.{by_itself}
use Rattle.fv_engine_reply.specs.AnswerView.{answer_view}
use Rattle.fv_engine_reply.specs.declared.answer.Done.{Done}
use Rattle.fv_engine_machine.proofs.answering.alone.Goals as goal

pub returns-clause-becomes : goal.returns-clause-becomes
returns-clause-becomes g c =
    let part = part_view c.args.part in
    let changed = rw (to_z-of_z w64 c.args.now c.ranges.now) at c.change.ensures.becomes in
    weaker (state g.S.Store) _ _ _ _ (λ x y so.
    let told : ChangesSo g.R.RuleSet.meaning c.args.now (part ∷ []) (done_by part) x (answer_view c.change.result) y =
    subst (λ (d : Done). ChangesSo g.R.RuleSet.meaning c.args.now (part ∷ []) d x (answer_view c.change.result) y) c.done_by-done.ensures so in
    told (alone part) (by_itself part)) changed
