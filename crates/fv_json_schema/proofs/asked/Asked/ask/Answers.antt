use Rattle.std.proofs.Common.{sym, ap, refl}
use Rattle.fv_constraint_tree.specs.Views.{node_view, test_view}
use Rattle.fv_json_schema.proofs.Walk.{at_first, next_asks, next_passes, unasked}
use Rattle.fv_json_schema.proofs.asked.Asked.ask.Goals as goal
use Rattle.fv_json_schema.proofs.asked.Asked.ask.Goals.{in-BuiltIn+in_ok-ask_built_in-in-BuiltIn, in-Nothing, in-Rule+in_ok-leave_out-in-Rule, in-ObjectRule+in_ok-leave_out-in-ObjectRule}

pub loop-number-init : goal.loop-number-init
loop-number-init c = at_first c.args.self.now c.args.occurrence.now

pub loop-number-preserved-in_default : goal.loop-number-preserved-in_default
loop-number-preserved-in_default c =
    next_passes c.args.self.now c.loop-number.self c.loop-number.self c.args.occurrence.now c.loop-number.number
    (λ n below b at asks. let there = c.in_default.ensures in cc) c.loop-number.invariant refl

pub loop-number-preserved : goal.loop-number-preserved
loop-number-preserved c =
    let there = c.in-Some.ensures in
    let before = c.loop-number.invariant in
    elim c.match-node-2.branch [
      | in-BuiltIn+in_ok-ask_built_in-in-BuiltIn w ↦
          rw w.self-is (next_asks c.args.self.now c.loop-number.self _ c.args.occurrence.now c.loop-number.number
          (node_view c.in-Some.node.now) c.in-Some.node.now.below _ (sym there) (ap test_view w.in-BuiltIn.is) before w.in_ok-ask_built_in-in-BuiltIn.ensures)
      | in-Nothing w ↦
          rw w.self-is (next_passes c.args.self.now c.loop-number.self c.loop-number.self c.args.occurrence.now c.loop-number.number
          (λ m below b at asks. unasked c.args.occurrence.now c.loop-number.number (node_view c.in-Some.node.now) m c.in-Some.node.now.below below b there at
          (λ h. let e = ap test_view w.in-Nothing.is in cc) asks) before refl)
      | in-Rule+in_ok-leave_out-in-Rule w ↦
          rw w.self-is (next_passes c.args.self.now c.loop-number.self _ c.args.occurrence.now c.loop-number.number
          (λ m below b at asks. unasked c.args.occurrence.now c.loop-number.number (node_view c.in-Some.node.now) m c.in-Some.node.now.below below b there at
          (λ h. let e = ap test_view w.in-Rule.is in cc) asks) before w.in_ok-leave_out-in-Rule.ensures)
      | in-ObjectRule+in_ok-leave_out-in-ObjectRule w ↦
          rw w.self-is (next_passes c.args.self.now c.loop-number.self _ c.args.occurrence.now c.loop-number.number
          (λ m below b at asks. unasked c.args.occurrence.now c.loop-number.number (node_view c.in-Some.node.now) m c.in-Some.node.now.below below b there at
          (λ h. let e = ap test_view w.in-ObjectRule.is in cc) asks) before w.in_ok-leave_out-in-ObjectRule.ensures)
    ]
