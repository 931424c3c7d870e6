use Rattle.std.proofs.Common.{◌≡◌, rules}
use Rattle.fv_builtin.specs.Matches.{anchored}
use Rattle.fv_builtin.proofs.Regexes.{told}
use Rattle.fv_builtin.proofs.pattern.build.Goals as goal

pub returns-clause-read : goal.returns-clause-read
returns-clause-read c =
    let source : c.as_str.result.now ≡ anchored c.args.regexp.now = search rules in
    let e = c.new.ensures in
    rw c.answer_of.ensures (told c.args.regexp.now c.as_str.result.now c.new.result source e.source e.config e.read e.by_grammar e.kind e.span).0

pub returns-clause-refused : goal.returns-clause-refused
returns-clause-refused c =
    let source : c.as_str.result.now ≡ anchored c.args.regexp.now = search rules in
    let e = c.new.ensures in
    rw c.answer_of.ensures (told c.args.regexp.now c.as_str.result.now c.new.result source e.source e.config e.read e.by_grammar e.kind e.span).1
