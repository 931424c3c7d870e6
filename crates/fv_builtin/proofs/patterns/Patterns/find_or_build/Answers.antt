use Rattle.std.proofs.Common.{string_bytes, ◌∙◌}
use Rattle.fv_builtin.specs.Matches.{anchored, IsReadFrom}
use Rattle.fv_builtin.proofs.Regexes.{found, kept}
use Rattle.fv_builtin.proofs.patterns.Patterns.find_or_build.Goals as goal

pub returns-in-Some-clause-read : goal.returns-in-Some-clause-read
returns-in-Some-clause-read c =
    found c.args.self.now.built c.args.regexp.now c.in-Some.regex.now c.in_ok-clone.field-0 c.args.self.now.read c.in-Some.ensures.value c.in_ok-clone.ensures.cases

pub invariant_of-self-2 : goal.invariant_of-self-2
invariant_of-self-2 c =
    let regex = c.in_ok-clone-2.field-0 in
    let is = c.in_ok-clone-2.ensures.cases ∙ c.in_ok-regex.ensures.ok in
    let here : IsReadFrom (anchored (string_bytes c.in_ok-text.text)) regex.value.regex.now = rw (is, c.in_ok-new.ensures, c.in_ok-text.ensures.ok) c.in_ok-build.ensures.read in
    record { read = kept c.args.self.now.built c.insert.result c.insert.new.self c.in_ok-text.text regex c.insert.ensures.updates c.insert.ensures.err here c.args.self.now.read }
