use Rattle.std.proofs.Common.{[], ◌++◌, ◌∙◌, rules}
use Rattle.std.specs.Str.{IsUtf8}
use Rattle.fv_message.specs.Parts.{part_pieces}
use Rattle.fv_message.proofs.Becoming.{told_template}
use Rattle.fv_message.proofs.Seen.{seen_none, seen_more, template_is}
use Rattle.fv_message.proofs.template.check_template.Goals as goal

pub loop-behind-init : goal.loop-behind-init
loop-behind-init c = (c.utf8.template, [], seen_none c.args.template.now)

pub loop-behind-smaller : goal.loop-behind-smaller
loop-behind-smaller c = c.in-Some.ensures.shorter

pub loop-behind-preserved : goal.loop-behind-preserved
loop-behind-preserved c =
    let seen = c.loop-behind.invariant.1 in
    let u : IsUtf8 c.in-Some.behind.now = search rules in
    (u, seen ++ part_pieces c.in-Some.field-0-0, seen_more c.args.template.now seen c.loop-behind.rest.now c.in-Some.behind.now c.in-Some.field-0-0 c.loop-behind.invariant.2 c.in-Some.ensures)

pub returns : goal.returns
returns c =
    told_template c.args.template.now c.is_empty.result
    (c.is_empty.ensures ∙ template_is c.args.template.now c.loop-behind.invariant.1 c.loop-behind.rest.now c.loop-behind.invariant.2 c.in_default.ensures)
