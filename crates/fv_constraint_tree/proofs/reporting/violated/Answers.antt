use Rattle.std.proofs.Common.{◌≡◌, ◌+◌, ◌∷◌, ◌++◌, [], cond, arith}
use Rattle.std.proofs.lemmas.Grind.{common_steps}
use Rattle.std.proofs.lemmas.Int.{to_z-of_z}
use mir.Syntax.{w64}
use Rattle.fv_constraint_tree.proofs.Entries.{fit_from}
use Rattle.fv_constraint_tree.proofs.Steps.{node_room, node_step}
use Rattle.fv_constraint_tree.proofs.Walking.{start, ended}
use Rattle.fv_constraint_tree.proofs.reporting.violated.Goals as goal
use Rattle.fv_constraint_tree.proofs.reporting.violated.Goals.{then-node, else-node, then-branch+in_ok-push, else-branch}

pub loop-number-init : goal.loop-number-init
loop-number-init g c = rw (c.new-numbers.ensures.items) (start _ _ _)

pub is_reported-requires-clause-fit : goal.is_reported-requires-clause-fit
is_reported-requires-clause-fit g c =
    fit_from (g.R.RuleSet.known c.args.rules.now.rules) c.args.occurrence.now c.loop-number.number (c.split_at.result.0.now ∷ c.split_at.result.1.now) c.split_at.ensures c.requires.fit

pub is_reported-requires-clause-room : goal.is_reported-requires-clause-room
is_reported-requires-clause-room g c = (node_room _ _ _ _ c.split_at.result.0.now c.split_at.result.1.now c.loop-number.invariant c.split_at.ensures).0

pub overflow_add-number : goal.overflow_add-number
overflow_add-number g c =
    let r = node_room _ _ _ _ c.split_at.result.0.now c.split_at.result.1.now c.loop-number.invariant c.split_at.ensures in
    omega (arith, r.1, c.size.ensures, c.size.type_inv)

pub overflow_add-number-in-loop-number : goal.overflow_add-number-in-loop-number
overflow_add-number-in-loop-number g c =
    let r = node_room _ _ _ _ c.split_at.result.0.now c.split_at.result.1.now c.loop-number.invariant c.split_at.ensures in
    elim c.if-node.branch [ then-node w ↦ omega (arith, r.1, c.size.ensures, c.size.type_inv) | else-node w ↦ omega (arith, r.1, c.size.ensures, c.size.type_inv) ]

pub loop-number-preserved : goal.loop-number-preserved
loop-number-preserved g c =
    let stands = c.in_ok-is_reported.field-0 in
    let single = c.split_at.result.0.now.single in
    let more : c.if-branch.numbers.items ≡ c.loop-number.numbers.items ++ cond stands (c.loop-number.number ∷ []) [] =
    elim c.if-branch.branch [ then-branch+in_ok-push w ↦ grind (arith, common_steps) | else-branch w ↦ grind (arith, common_steps) ] in
    let far : c.loop-number.number + c.if-node.number ≡ c.loop-number.number + cond single (c.split_at.result.0.now.below + 1) 1 =
    elim c.if-node.branch [ then-node w ↦ grind (arith, common_steps) | else-node w ↦ grind (arith, common_steps) ] in
    node_step _ _ _ _ _ _ c.split_at.result.0.now c.split_at.result.1.now stands c.loop-number.invariant c.split_at.ensures c.in_ok-is_reported.ensures more far

pub returns : goal.returns
returns g c = ended _ _ _ _ _ (rw (to_z-of_z w64 c.args.now c.ranges.now) at c.loop-number.invariant) (omega arith)
