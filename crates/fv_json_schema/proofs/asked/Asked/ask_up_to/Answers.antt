use Rattle.std.proofs.Common.{arith, ◌≤ℤ◌}
use Rattle.std.proofs.lemmas.Int.{ints, clamps, to_z-of_z}
use Rattle.fv_json_schema.proofs.asked.Asked.ask_up_to.Goals as goal
use mir.Syntax.{w128}

pub returns-in-Some-clause-sound : goal.returns-in-Some-clause-sound
returns-in-Some-clause-sound c n fits within up_to =
    let below = (rw (to_z-of_z w128 c.args.bound c.ranges.bound) at (c.included_up_to-units.ensures n fits)).0 up_to in
    let most : n ≤ℤ c.in-Some.whole = c.in-Some.ensures.found.greatest n (omega (arith, ints, below)) in
    omega (arith, ints, clamps, c.min-self.ensures.value)

pub returns-in-Some-clause-said : goal.returns-in-Some-clause-said
returns-in-Some-clause-said c kind m n fits fits' up_to within =
    let most : n ≤ℤ c.in-Some.whole = omega (arith, ints, clamps, c.min-self.ensures.value) in
    let there = c.in-Some.ensures.found.not_above in
    (rw (to_z-of_z w128 c.args.bound c.ranges.bound) at (c.included_up_to-units.ensures n fits')).1 (omega (arith, ints, there))

pub returns-in_default-clause-said : goal.returns-in_default-clause-said
returns-in_default-clause-said c kind m n fits fits' up_to within =
    let below = (rw (to_z-of_z w128 c.args.bound c.ranges.bound) at (c.included_up_to-units.ensures m fits)).0 up_to in
    let there = c.whole_up_to.ensures.alike c.in_default.is m n fits fits' (omega (arith, ints, below)) in
    (rw (to_z-of_z w128 c.args.bound c.ranges.bound) at (c.included_up_to-units.ensures n fits')).1 (omega (arith, ints, there))
