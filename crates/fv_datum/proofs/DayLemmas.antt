-- The parts of a text of a date's form, and the day of a moment.
use Rattle.std.proofs.Common.{◌≡◌, ℕ, ◌<◌, ◌≤◌, ◌^◌, List, length, take, drop, Bool, true, false, ◌&&◌, refl, arith, ℤ, pos, negsuc, ◌+ℤ◌, ◌≤ℤ◌, FitsSigned, w64}
use Rattle.std.proofs.lemmas.List.{length-take}
use Rattle.std.proofs.Math.Nat.{pow-le-pow_right}
use Rattle.std.specs.Int.{int_div_euclid}
use Rattle.jiff_core.specs.Calendar.{days_from_civil, IsEpochDay}
use Rattle.jiff_core.specs.Date.{epoch_day, IsYmd}
use Rattle.jiff_core.specs.declared.civil.date.Date.{Date}
use Rattle.jiff_core.proofs.SignedLemmas.{signed_arith, int_div_euclid-parts}
use Rattle.fv_datum.specs.Decimals.{are_digits}
use Rattle.fv_datum.specs.Days.{has_date_form}
use Rattle.fv_datum.specs.Moments.{IsMoment}

both : (a b : Bool) → (a && b) ≡ true → (a ≡ true) × (b ≡ true)
both true b e = (refl, e)
both false b e = cc

pub month_day : (s : List ℕ) → has_date_form s ≡ true → are_digits (take 2 (drop 8 s)) ≡ true
month_day s e = (both _ (are_digits (take 2 (drop 8 s))) e).1

parts_zero : (y : ℤ) (m d : ℕ) → y ≡ pos 1970 → m ≡ 1 → d ≡ 1 → days_from_civil y m d ≡ pos 0
unfolding days_from_civil
parts_zero y m d a b c = rw (a, b, c) (omega (arith, signed_arith))

epoch_zero : (d : Date) → IsYmd (pos 1970) (pos 1) (pos 1) d → epoch_day d ≡ pos 0
epoch_zero d h =
    let month : d.month ≡ 1 = cc in
    let day : d.day ≡ 1 = cc in
    parts_zero d.year d.month d.day h.0 month day

small_fits : (z : ℤ) → negsuc 999999999 ≤ℤ z → z ≤ℤ pos 999999999 → FitsSigned w64 z
small_fits (pos n) low high = record { sfits = omega (arith, signed_arith) }
small_fits (negsuc n) low high = record { sfits = omega (arith, signed_arith) }

-- the day of a moment is one of the calendar's, counted from 1970-01-01
pub record DayAt (d : Date) (days : ℤ) : Type 0 where
  pub counted : epoch_day d +ℤ days ≡ days
  pub range : IsEpochDay (epoch_day d +ℤ days)
  pub fits : FitsSigned w64 days

pub day_ok : (s days : ℤ) (d : Date) → IsMoment s → days ≡ int_div_euclid s (pos 86400) → IsYmd (pos 1970) (pos 1) (pos 1) d → DayAt d days
day_ok s days d h is first =
    let zero_day = epoch_zero d first in
    let parts = int_div_euclid-parts s 86400 (omega arith) in
    let p = rw (← is) at parts in
    let counted : epoch_day d +ℤ days ≡ days = rw zero_day (omega (arith, signed_arith)) in
    record { counted = counted; range = rw counted (omega (arith, signed_arith)); fits = small_fits days (omega (arith, signed_arith)) (omega (arith, signed_arith)) }

-- k digits write a number below 10^k
pub short : (n k : ℕ) (s : List ℕ) → n < 10 ^ length (take k s) → n < 10 ^ k
short n k s h =
    let few : length (take k s) ≤ k = omega (arith, length-take k s) in
    let more : 10 ^ length (take k s) ≤ 10 ^ k = pow-le-pow_right (omega arith) few in
    omega arith
