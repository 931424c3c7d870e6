use Rattle.std.proofs.Common.{refl, arith}
use Rattle.fv_extract.specs.declared.place.Step.TheVariants as step
use Rattle.fv_local.proofs.Stands.{path_open, step_turns, steps_left}
use Rattle.fv_local.proofs.path.push_nodes.Goals as goal
use Rattle.fv_local.proofs.path.push_nodes.Goals.{in-Content, in_default}

pub loop-step-init : goal.loop-step-init
loop-step-init c = record { led = c.requires.leads; nodes = refl; path = path_open c.args.path.now c.requires.room; room = λ some. c.requires.room }

pub loop-step-preserved : goal.loop-step-preserved
loop-step-preserved c = elim c.match-matches.branch [
  | in-Content w ↦ let clash = c.if-matches.false in let is = w.matches-is in absurd cc
  | in_default w ↦
      let i = c.loop-step.step-index in
      let kept = c.loop-step.invariant in
      let s = step_turns c.args.steps.now c.args.locus.now i c.loop-step.at step.Element c.in-Some.part.now c.loop-step.path c.push_step.new.path _ (omega arith) w.in_default.not-Content
      c.in-Some.ensures.lookup.3.0 c.in-Some.ensures.lookup.1 kept.led kept.nodes c.in_ok-push_step.ensures.added c.in_ok-push_step.ensures.path in
      record { led = s.led; nodes = s.nodes; path = c.in_ok-push_step.ensures.path; room = λ more. s.room (steps_left c.args.steps.now c.args.locus.now i more) }
]
