-- Numbers of 128 bits have few digits before the point, and all have at most 9 behind it.
use Rattle.std.proofs.Common.{◌≡◌, ℕ, ◌+◌, ◌-◌, ◌*◌, ◌/◌, ◌%◌, ◌^◌, ◌<◌, ◌≤◌, ◌==◌, true, refl, sym, arith, mul_assoc, subst, ℤ, unsigned_abs}
use Rattle.std.proofs.Math.Nat.{pow-le-pow_right, mul-mod_left}
use Rattle.std.proofs.lemmas.Bool.{lt-ltb}
use Rattle.std.proofs.lemmas.Nat.{pow-add, mul-mod_first}
use Rattle.fv_builtin.specs.Numbers.{has_integral, has_fraction}

pub few : (n k : ℕ) → n ≤ k → 10 ^ n ≤ 10 ^ k
few n k h = pow-le-pow_right (omega arith) h

pub integral_all : (count : ℕ) (n : ℤ) → 30 ≤ count → unsigned_abs n ≤ 2 ^ 127 → true ≡ has_integral count n
integral_all count n h small =
    let more = few 30 count h in
    let below : unsigned_abs n / 10 ^ 9 < 10 ^ count = omega arith in
    sym (lt-ltb (unsigned_abs n / 10 ^ 9) (10 ^ count) below)

shifted : (a k : ℕ) → a * 10 ^ (k + 9) ≡ a * 10 ^ k * 10 ^ 9
shifted a k = rw (pow-add 10 k 9) (sym (mul_assoc a (10 ^ k) (10 ^ 9)))

rest_of : (a k : ℕ) → (a * 10 ^ (k + 9)) % 10 ^ 9 ≡ 0
rest_of a k = rw (shifted a k) (mul-mod_left (a * 10 ^ k) (10 ^ 9))

no_rest : (a count : ℕ) → 9 ≤ count → (a * 10 ^ count) % 10 ^ 9 ≡ 0
no_rest a count h =
    let parts : count - 9 + 9 ≡ count = omega arith in
    subst (λ (n : ℕ). (a * 10 ^ n) % 10 ^ 9 ≡ 0) parts (rest_of a (count - 9))

pub fraction_all : (count : ℕ) (n : ℤ) → 9 ≤ count → true ≡ has_fraction count n
fraction_all count n h = rw (no_rest (unsigned_abs n) count h) refl

pub fraction_same : (count : ℕ) (n : ℤ) → ((unsigned_abs n % 10 ^ 9 * 10 ^ count) % 10 ^ 9 == 0) ≡ has_fraction count n
fraction_same count n = rw (mul-mod_first (unsigned_abs n) (10 ^ count) (10 ^ 9)) refl
