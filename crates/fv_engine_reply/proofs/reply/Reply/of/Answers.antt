use Rattle.std.proofs.Common.{◌≡◌, map, ap}
use Rattle.fv_engine_reply.specs.Answers.{value_checked}
use Rattle.fv_engine_reply.specs.AnswerView.{answer_view}
use Rattle.fv_engine_reply.proofs.Told.{made_tells}
use Rattle.fv_engine_reply.proofs.reply.Reply.of.Goals as goal
use Rattle.fv_validate.specs.ViolationView.{violation_view}

pub returns-in-ValueChecked : goal.returns-in-ValueChecked
returns-in-ValueChecked c =
    let answer = value_checked (map violation_view c.in-ValueChecked.violations.items) in
    let is : answer_view c.args.answer.now ≡ answer = ap answer_view c.in-ValueChecked.is in
    rw is
    (made_tells c.listing-in-ValueChecked.result c.or_memory-in-ValueChecked.result answer tt c.or_memory-in-ValueChecked.ensures
    (rw c.deref-in-ValueChecked.ensures.value at c.listing-in-ValueChecked.ensures))
