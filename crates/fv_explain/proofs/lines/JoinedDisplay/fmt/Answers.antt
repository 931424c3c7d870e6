use Rattle.std.proofs.Common.{rules, ◌≡◌, ◌∷◌, ap}
use Rattle.std.proofs.Output.{has_written_append, has_written_of_eq}
use Rattle.fv_explain.specs.Lines.{names_in}
use Rattle.fv_explain.proofs.Joined.{others_more, others_all}
use Rattle.fv_explain.proofs.lines.JoinedDisplay.fmt.Goals as goal

pub loop-other-preserved : goal.loop-other-preserved
loop-other-preserved g c = λ plain.
    let so_far = c.loop-other.invariant plain in
    let between = c.write_str-in-loop-other.ensures.writes so_far.plain (search rules) in
    let name = c.write_str-in-loop-other-2.ensures.writes between.plain (search rules) in
    has_written_of_eq _ _ _ _ _ (others_more _ c.in-Some.others.now c.loop-other.other-index _ c.loop-other-test.true)
    (has_written_append _ _ _ _ _ _ (has_written_append _ _ _ _ _ _ so_far between) name)

pub returns-clause-writes : goal.returns-clause-writes
returns-clause-writes g c = λ plain _.
    let first = c.write_str.ensures.writes plain (search rules) in
    let is : names_in c.args.self.now.0.now ≡ c.in-Some.first.now.now ∷ names_in c.in-Some.others.now = ap names_in c.in-Some.ensures.cases.0 in
    has_written_of_eq _ _ _ _ _ (others_all _ _ c.in-Some.others.now c.in-Some.first.now.now c.loop-other.other-index is c.loop-other-test.false)
    (has_written_append _ _ _ _ _ _ first (c.loop-other.invariant first.plain))
