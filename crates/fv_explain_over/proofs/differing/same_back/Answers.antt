use Rattle.std.proofs.Common.{◌≡◌, ◌<◌, true, false, length, min, reverse, ap₂, ◌∙◌, sym, arith}
use Rattle.std.proofs.lemmas.List.{length-reverse}
use Rattle.serde_json.specs.View.{view}
use Rattle.fv_explain_over.specs.Same.{same}
use Rattle.fv_explain_over.proofs.Fronts.{front_stops, front_goes_on, front_ends, back_starts, from_end, within_reversed}
use Rattle.fv_explain_over.proofs.differing.same_back.Goals as goal

pub loop-number-init : goal.loop-number-init
loop-number-init c = back_starts c.args.old.now c.args.new.now

pub returns-then-not-are_same-clause-exact : goal.returns-then-not-are_same-clause-exact
returns-then-not-are_same-clause-exact c =
    let vs = c.args.old.now in
    let ws = c.args.new.now in
    let i = c.loop-number.number in
    let in_old : i < length vs = omega (arith, c.loop-number-test.true, c.min-shorter.ensures) in
    let in_new : i < length ws = omega (arith, c.loop-number-test.true, c.min-shorter.ensures) in
    let v = c.index-old-old.result in
    let w = c.index-new-new.result in
    let other : same (view v) (view w) ≡ false = sym c.are_same.ensures ∙ c.if-not-are_same.true in
    front_stops (reverse vs) (reverse ws) i v w (within_reversed vs i in_old) (within_reversed ws i in_new)
    (from_end vs i v in_old c.index-old-old.is) (from_end ws i w in_new c.index-new-new.is) _ other c.loop-number.invariant

pub loop-number-preserved : goal.loop-number-preserved
loop-number-preserved c =
    let vs = c.args.old.now in
    let ws = c.args.new.now in
    let i = c.loop-number.number in
    let in_old : i < length vs = omega (arith, c.loop-number-test.true, c.min-shorter.ensures) in
    let in_new : i < length ws = omega (arith, c.loop-number-test.true, c.min-shorter.ensures) in
    let v = c.index-old-old.result in
    let w = c.index-new-new.result in
    let alike : same (view v) (view w) ≡ true = sym c.are_same.ensures ∙ c.if-not-are_same.false in
    front_goes_on (reverse vs) (reverse ws) i v w (within_reversed vs i in_old) (within_reversed ws i in_new)
    (from_end vs i v in_old c.index-old-old.is) (from_end ws i w in_new c.index-new-new.is) _ alike c.loop-number.invariant

pub returns-clause-exact : goal.returns-clause-exact
returns-clause-exact c =
    let vs = c.args.old.now in
    let ws = c.args.new.now in
    let here : c.min-shorter.result ≡ c.loop-number.number = omega (arith, c.loop-number-test.false, c.loop-number.auto.number-end) in
    let lengths : min (length vs) (length ws) ≡ min (length (reverse vs)) (length (reverse ws)) = ap₂ min (sym (length-reverse vs)) (sym (length-reverse ws)) in
    here ∙ front_ends (reverse vs) (reverse ws) c.loop-number.number _ (sym here ∙ c.min-shorter.ensures ∙ lengths) c.loop-number.invariant
