use Rattle.std.proofs.Common.{◌≡◌, rules}
use Rattle.fv_message.specs.Reading.{is_template}
use Rattle.fv_message.proofs.Becoming.{template_told}
use Rattle.fv_message.proofs.user_messages.misspelt_in.Goals as goal

pub returns-then-not-check_template : goal.returns-then-not-check_template
returns-then-not-check_template c =
    let told : c.check_template.result ≡ is_template c.as_str-in-loop-number.result.now = template_told c.as_str-in-loop-number.result.now c.check_template.result c.check_template.ensures in
    search (rules, told)

pub loop-number-preserved : goal.loop-number-preserved
loop-number-preserved c =
    let told : c.check_template.result ≡ is_template c.as_str-in-loop-number.result.now = template_told c.as_str-in-loop-number.result.now c.check_template.result c.check_template.ensures in
    search (rules, told)
