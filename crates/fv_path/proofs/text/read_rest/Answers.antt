use Rattle.std.proofs.Common.{sym, ap, ◌∙◌, length, ◌==◌}
use Rattle.std.proofs.lemmas.Bool.{both_ways, eqb-true}
use Rattle.std.proofs.lemmas.List.{nil_from_length}
use Rattle.fv_path.specs.Views.{node_view}
use Rattle.fv_path.proofs.Turns.{read_none, read_more, read_all, none_begins, none_stands}
use Rattle.fv_path.proofs.text.read_rest.Goals as goal

pub loop-rest-init : goal.loop-rest-init
loop-rest-init c = read_none c.args.begun c.args.text.now c.requires

pub loop-rest-preserved : goal.loop-rest-preserved
loop-rest-preserved c =
    let found = rw c.in-Some.is at c.in_ok-node.ensures in
    rw c.in_ok-push.ensures.ok (read_more c.args.begun c.loop-rest.path c.loop-rest.rest.now c.args.text.now c.in-Some.after.now (node_view c.in-Some.node) c.loop-rest.invariant
    (λ e. both_ways c.is_empty.result c.loop-rest-test.true (c.is_empty.ensures ∙ ap (λ l. length l == 0) e)) found.1 (sym c.can_push.ensures ∙ c.if-not-can_push.false))

pub returns-in_default-clause-rest : goal.returns-in_default-clause-rest
returns-in_default-clause-rest c =
    let found = rw c.in_default.is at c.in_ok-node.ensures in
    none_begins c.args.begun c.loop-rest.path c.loop-rest.rest.now c.args.text.now c.loop-rest.invariant
    (λ e. both_ways c.is_empty.result c.loop-rest-test.true (c.is_empty.ensures ∙ ap (λ l. length l == 0) e)) found

pub returns-then-not-can_push-clause-rest : goal.returns-then-not-can_push-clause-rest
returns-then-not-can_push-clause-rest c =
    let found = rw c.in-Some.is at c.in_ok-node.ensures in
    none_stands c.args.begun c.loop-rest.path c.loop-rest.rest.now c.args.text.now c.in-Some.after.now (node_view c.in-Some.node) c.loop-rest.invariant
    (λ e. both_ways c.is_empty.result c.loop-rest-test.true (c.is_empty.ensures ∙ ap (λ l. length l == 0) e)) found.1 (sym c.can_push.ensures ∙ c.if-not-can_push.true)

pub returns-clause-path : goal.returns-clause-path
returns-clause-path c = c.loop-rest.invariant.whole

pub returns-clause-rest : goal.returns-clause-rest
returns-clause-rest c =
    read_all c.args.begun c.loop-rest.path c.loop-rest.rest.now c.args.text.now c.loop-rest.invariant
    (nil_from_length c.loop-rest.rest.now (eqb-true (length c.loop-rest.rest.now) 0 (sym c.is_empty.ensures ∙ c.loop-rest-test.false)))
