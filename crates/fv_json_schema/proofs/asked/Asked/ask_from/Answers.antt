use Rattle.std.proofs.Common.{arith, ◌≤ℤ◌}
use Rattle.std.proofs.lemmas.Int.{ints, clamps, to_z-of_z}
use Rattle.fv_json_schema.proofs.asked.Asked.ask_from.Goals as goal
use mir.Syntax.{w128}

pub returns-in-Some-clause-sound : goal.returns-in-Some-clause-sound
returns-in-Some-clause-sound c n fits within from =
    let above = (rw (to_z-of_z w128 c.args.bound c.ranges.bound) at (c.included_from-units.ensures n fits)).0 from in
    let least : c.in-Some.whole ≤ℤ n = c.in-Some.ensures.found.least n (omega (arith, ints, above)) in
    omega (arith, ints, clamps, c.max-self.ensures.value)

pub returns-in-Some-clause-said : goal.returns-in-Some-clause-said
returns-in-Some-clause-said c kind m n fits fits' from within =
    let least : c.in-Some.whole ≤ℤ n = omega (arith, ints, clamps, c.max-self.ensures.value) in
    let there = c.in-Some.ensures.found.not_below in
    (rw (to_z-of_z w128 c.args.bound c.ranges.bound) at (c.included_from-units.ensures n fits')).1 (omega (arith, ints, there))

pub returns-in_default-clause-said : goal.returns-in_default-clause-said
returns-in_default-clause-said c kind m n fits fits' from within =
    let above = (rw (to_z-of_z w128 c.args.bound c.ranges.bound) at (c.included_from-units.ensures m fits)).0 from in
    let there = c.whole_from.ensures.alike c.in_default.is m n fits fits' (omega (arith, ints, above)) in
    (rw (to_z-of_z w128 c.args.bound c.ranges.bound) at (c.included_from-units.ensures n fits')).1 (omega (arith, ints, there))
