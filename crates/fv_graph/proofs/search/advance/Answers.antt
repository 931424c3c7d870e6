use Rattle.std.proofs.Common.{arith}
use Rattle.std.proofs.lemmas.Result.{on_ok_weaker}
use Rattle.fv_graph.proofs.Moves.{move_on, move_past, move_round, move_off}
use Rattle.fv_graph.proofs.search.advance.Goals as goal

pub returns-then-frame-len-clause-step : goal.returns-then-frame-len-clause-step
returns-then-frame-len-clause-step c =
    on_ok_weaker c.leave.result
    (move_off c.args.edges.now c.args.marks.now.items c.leave.new.marks.items c.args.order.now.items c.leave.new.order.items c.args.stack.now.items c.args.frame c.index-edges-frame.result
    c.requires.searches c.index-edges-frame.is (omega arith) c.leave.ensures.marks)
    c.leave.ensures.order

pub returns-in_ok-push-in-New-2-clause-step : goal.returns-in_ok-push-in-New-2-clause-step
returns-in_ok-push-in-New-2-clause-step c =
    move_on c.args.edges.now c.args.marks.now.items c.args.order.now.items c.args.stack.now.items c.push.new.self.items c.push-in-New.new.self.items c.args.frame c.index-edges-frame.result c.index-successor.result.now
    c.requires.searches c.requires.within c.index-edges-frame.is (omega arith) c.index-successor.ensures c.index.result.now c.index.ensures
    c.in-New.is c.in_ok-push-in-New.ensures.items c.in_ok-push-in-New-2.ensures.items

pub returns-in_ok-push-in-Open-clause-step : goal.returns-in_ok-push-in-Open-clause-step
returns-in_ok-push-in-Open-clause-step c =
    move_round c.args.edges.now c.args.marks.now.items c.args.order.now.items c.args.stack.now.items c.push-in-Open.new.self.items c.args.frame c.index-edges-frame.result c.index-successor.result.now
    c.requires.searches c.requires.within c.index-edges-frame.is (omega arith) c.index-successor.ensures c.index.result.now c.index.ensures
    c.in-Open.is c.in_ok-push-in-Open.ensures.items

pub returns-in_ok-push-in-Done-clause-step : goal.returns-in_ok-push-in-Done-clause-step
returns-in_ok-push-in-Done-clause-step c =
    move_past c.args.edges.now c.args.marks.now.items c.args.order.now.items c.args.stack.now.items c.push-in-Done.new.self.items c.args.frame c.index-edges-frame.result c.index-successor.result.now
    c.requires.searches c.requires.within c.index-edges-frame.is (omega arith) c.index-successor.ensures c.index.result.now c.index.ensures
    c.in-Done.is c.in_ok-push-in-Done.ensures.items
