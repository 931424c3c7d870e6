-- Numbers of 64 bits are added in 128 bits as they are.
use Rattle.std.proofs.Common.{◌≡◌, ℤ, ◌+ℤ◌, nat_eq, Decides, sym, ap, ◌∙◌, arith, w64}
use Rattle.std.proofs.lemmas.Int.{ints}
use Rattle.std.proofs.lemmas.Bool.Decides.{same_from_decides, Decides-eqb, Decides-int_eq}
use Rattle.std.specs.Ordering.{int_eq}
use mir.Val.{SFits, of_z, to_z}
use mir.Syntax.{w128}

wide : (a : ℤ) → SFits w64 a → to_z w128 (of_z w128 a) ≡ a
wide a f = omega (arith, ints)

wide_sum : (a b : ℤ) → SFits w64 a → SFits w64 b → to_z w128 (of_z w128 (a +ℤ b)) ≡ a +ℤ b
wide_sum a b f g = omega (arith, ints)

pub sums : (a b t : ℤ) → SFits w64 a → SFits w64 b → SFits w64 t
    → nat_eq (of_z w128 (to_z w128 (of_z w128 a) +ℤ to_z w128 (of_z w128 b))) (of_z w128 t) ≡ int_eq (a +ℤ b) t
sums a b t f g h =
    let d = Decides-eqb (of_z w128 (a +ℤ b)) (of_z w128 t) in
    let two : Decides (nat_eq (of_z w128 (a +ℤ b)) (of_z w128 t)) (a +ℤ b ≡ t) = (λ e. sym (wide_sum a b f g) ∙ ap (to_z w128) (d.0 e) ∙ wide t h, λ p. d.1 (ap (of_z w128) p)) in
    rw (wide a f, wide b g) (same_from_decides _ _ two (Decides-int_eq (a +ℤ b) t))
