use Rattle.std.proofs.Common.{sym, ◌∙◌, arith}
use Rattle.fv_path.proofs.Strings.{at_quote, at_end, ends_string}
use Rattle.fv_path.proofs.key.string_len.Goals as goal

pub returns-in-34-clause-found : goal.returns-in-34-clause-found
returns-in-34-clause-found c k rest e =
    let text = c.args.text.now in
    sym (at_quote text c.loop-i.i (omega arith) c.in-34.is) ∙ rw c.if-escaped.false at c.loop-i.invariant ∙ ends_string text k rest e

pub returns-clause-found : goal.returns-clause-found
returns-clause-found c k rest e =
    let text = c.args.text.now in
    sym (at_end text c.loop-i.escaped c.loop-i.i (omega arith)) ∙ c.loop-i.invariant ∙ ends_string text k rest e
