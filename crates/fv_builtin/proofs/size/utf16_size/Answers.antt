use Rattle.std.proofs.Common.{◌≤◌, ◌∙◌, arith}
use Rattle.std.proofs.lemmas.Iterator.{YieldsList-from_chars}
use Rattle.std.proofs.lemmas.Iterator.Consumers.{YieldsList-turn, YieldsList-end}
use Rattle.std.specs.Str.{chars}
use Rattle.fv_builtin.proofs.Units.{units-few, unit-few, chars-few, same_units}
use Rattle.fv_builtin.proofs.size.utf16_size.Goals as goal

pub overflow_add-units : goal.overflow_add-units
overflow_add-units c =
    let t = YieldsList-turn (YieldsList-from_chars c.args.text.now c.utf8.text cc) c.loop-c.yielded _ c.loop-c.yielded_by _ _ c.in-Some.c c.in-Some.is c.next.ensures.steps in
    let few = units-few c.loop-c.yielded in
    let less = chars-few c.args.text.now c.utf8.text in
    let here : c.units_of-units.result ≤ 2 = rw c.units_of-units.ensures (unit-few c.in-Some.c) in
    omega arith

pub returns : goal.returns
returns c =
    let t = YieldsList-end (YieldsList-from_chars c.args.text.now c.utf8.text cc) c.loop-c.yielded _ c.loop-c.yielded_by _ _ c.in-None.is c.next.ensures.steps in
    c.loop-c.invariant ∙ same_units c.loop-c.yielded (chars c.args.text.now) t.0
