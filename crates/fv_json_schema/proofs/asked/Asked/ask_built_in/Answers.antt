use Rattle.std.proofs.Common.{rules, refl, true, false, pos}
use Rattle.std.proofs.lemmas.Int.{to_z-of_z}
use mir.Syntax.{w128}
use mir.Val.{SFits, to_z, of_z}
use Rattle.fv_builtin.specs.BuiltIns as built
use Rattle.fv_json_schema.proofs.Adding.{null_adds, not_null_adds, true_adds, false_adds, from_adds, up_to_adds, digits_adds}
use Rattle.fv_json_schema.proofs.asked.Asked.ask_built_in.Goals as goal

pub returns-in-Null : goal.returns-in-Null
returns-in-Null c = rw c.in-Null.is (null_adds c.args.self.now)

pub returns-in-NotNull : goal.returns-in-NotNull
returns-in-NotNull c = rw c.in-NotNull.is (not_null_adds c.args.self.now)

pub returns-in-AssertTrue : goal.returns-in-AssertTrue
returns-in-AssertTrue c = rw c.in-AssertTrue.is (true_adds c.args.self.now)

pub returns-in-AssertFalse : goal.returns-in-AssertFalse
returns-in-AssertFalse c = rw c.in-AssertFalse.is (false_adds c.args.self.now)

pub returns-in-Min : goal.returns-in-Min
returns-in-Min c =
    let h = c.ask_from.ensures in
    let fits : SFits w128 c.in-Min.units = search rules in
    let made = from_adds c.ask_from.result c.args.self.now c.ask_from.new.self (to_z w128 (of_z w128 c.in-Min.units)) true (built.min (to_z w128 (of_z w128 c.in-Min.units))) (λ d now. refl) h.kept h.others h.sound h.asked h.said in
    rw c.in-Min.is (rw (to_z-of_z w128 c.in-Min.units fits) at made)

pub returns-in-Max : goal.returns-in-Max
returns-in-Max c =
    let h = c.ask_up_to.ensures in
    let fits : SFits w128 c.in-Max.units = search rules in
    let made = up_to_adds c.ask_up_to.result c.args.self.now c.ask_up_to.new.self (to_z w128 (of_z w128 c.in-Max.units)) true (built.max (to_z w128 (of_z w128 c.in-Max.units))) (λ d now. refl) h.kept h.others h.sound h.asked h.said in
    rw c.in-Max.is (rw (to_z-of_z w128 c.in-Max.units fits) at made)

pub returns-in-DecimalMin : goal.returns-in-DecimalMin
returns-in-DecimalMin c =
    let h = c.ask_from-in-DecimalMin.ensures in
    let fits : SFits w128 c.in-DecimalMin.units = search rules in
    let made = from_adds c.ask_from-in-DecimalMin.result c.args.self.now c.ask_from-in-DecimalMin.new.self (to_z w128 (of_z w128 c.in-DecimalMin.units)) c.in-DecimalMin.inclusive (built.decimal_min (to_z w128 (of_z w128 c.in-DecimalMin.units)) c.in-DecimalMin.inclusive) (λ d now. refl) h.kept h.others h.sound h.asked h.said in
    rw c.in-DecimalMin.is (rw (to_z-of_z w128 c.in-DecimalMin.units fits) at made)

pub returns-in-DecimalMax : goal.returns-in-DecimalMax
returns-in-DecimalMax c =
    let h = c.ask_up_to-in-DecimalMax.ensures in
    let fits : SFits w128 c.in-DecimalMax.units = search rules in
    let made = up_to_adds c.ask_up_to-in-DecimalMax.result c.args.self.now c.ask_up_to-in-DecimalMax.new.self (to_z w128 (of_z w128 c.in-DecimalMax.units)) c.in-DecimalMax.inclusive (built.decimal_max (to_z w128 (of_z w128 c.in-DecimalMax.units)) c.in-DecimalMax.inclusive) (λ d now. refl) h.kept h.others h.sound h.asked h.said in
    rw c.in-DecimalMax.is (rw (to_z-of_z w128 c.in-DecimalMax.units fits) at made)

pub returns-in-Positive : goal.returns-in-Positive
returns-in-Positive c =
    let h = c.ask_from-in-Positive.ensures in
    rw c.in-Positive.is (from_adds c.ask_from-in-Positive.result c.args.self.now c.ask_from-in-Positive.new.self (pos 0) false built.positive (λ d now. refl) h.kept h.others h.sound h.asked h.said)

pub returns-in-PositiveOrZero : goal.returns-in-PositiveOrZero
returns-in-PositiveOrZero c =
    let h = c.ask_from-in-PositiveOrZero.ensures in
    rw c.in-PositiveOrZero.is (from_adds c.ask_from-in-PositiveOrZero.result c.args.self.now c.ask_from-in-PositiveOrZero.new.self (pos 0) true built.positive_or_zero (λ d now. refl) h.kept h.others h.sound h.asked h.said)

pub returns-in-Negative : goal.returns-in-Negative
returns-in-Negative c =
    let h = c.ask_up_to-in-Negative.ensures in
    rw c.in-Negative.is (up_to_adds c.ask_up_to-in-Negative.result c.args.self.now c.ask_up_to-in-Negative.new.self (pos 0) false built.negative (λ d now. refl) h.kept h.others h.sound h.asked h.said)

pub returns-in-NegativeOrZero : goal.returns-in-NegativeOrZero
returns-in-NegativeOrZero c =
    let h = c.ask_up_to-in-NegativeOrZero.ensures in
    rw c.in-NegativeOrZero.is (up_to_adds c.ask_up_to-in-NegativeOrZero.result c.args.self.now c.ask_up_to-in-NegativeOrZero.new.self (pos 0) true built.negative_or_zero (λ d now. refl) h.kept h.others h.sound h.asked h.said)

pub returns-in-Digits : goal.returns-in-Digits
returns-in-Digits c =
    let h = c.ask_digits.ensures in
    rw c.in-Digits.is (digits_adds c.ask_digits.result c.args.self.now c.ask_digits.new.self c.in-Digits.integer c.in-Digits.fraction h.kept h.others h.sound h.asked h.said)
