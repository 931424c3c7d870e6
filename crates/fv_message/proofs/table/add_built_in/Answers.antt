use Rattle.std.proofs.Common.{◌∙◌}
use Rattle.fv_message.specs.BuiltIn.{built_in_key}
use Rattle.fv_message.specs.Views.{messages_view}
use Rattle.fv_message.proofs.Built.{contains_is, message_added, message_there}
use Rattle.fv_message.proofs.table.add_built_in.Goals as goal

pub returns-in_ok-insert : goal.returns-in_ok-insert
returns-in_ok-insert c =
    let key = built_in_key c.args.name.now in
    message_added c.args.texts.now c.insert.new.self c.in_ok-key.key c.in_ok-from_str.field-0 key c.args.text.now c.in_ok-key.ensures c.in_ok-from_str.ensures.ok
    (contains_is c.args.texts.now c.as_str.result.now key c.contains_key.result c.contains_key.ensures (c.as_str.ensures.value ∙ c.in_ok-key.ensures) ∙ c.if-not-contains_key.true)
    c.in_ok-insert.ensures.entries

pub returns-else-not-contains_key : goal.returns-else-not-contains_key
returns-else-not-contains_key c =
    let key = built_in_key c.args.name.now in
    message_there (messages_view c.args.texts.now) key c.args.text.now
    (contains_is c.args.texts.now c.as_str.result.now key c.contains_key.result c.contains_key.ensures (c.as_str.ensures.value ∙ c.in_ok-key.ensures) ∙ c.if-not-contains_key.false)
