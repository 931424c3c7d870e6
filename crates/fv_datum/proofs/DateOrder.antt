-- The bytes of two dates compare as their days do.
use Rattle.std.proofs.Common.{◌≡◌, ℕ, ◌+◌, ◌*◌, ◌<◌, inl, inr, List, [], ◌∷◌, ◌++◌, length, take, drop, get_or, nat_eq, nat_le, Bool, true, false, ◌&&◌, cond, Option, Some, None, Less, Equal, Greater, nat_cmp, int_cmp, refl, sym, ap, ◌∙◌, arith, ℤ, pos, ◌<ℤ◌, slice_index, take-append-drop}
use Rattle.std.proofs.Math.Seq.{drop-cons}
use Rattle.std.proofs.lemmas.Bool.{cases_order, eqb-true, leb-true}
use Rattle.std.proofs.lemmas.Bool.Decides.{nat_tests}
use Rattle.std.proofs.lemmas.Int.{ints}
use Rattle.std.proofs.lemmas.List.{take_all, length-take, length-drop}
use Rattle.std.specs.Char.{is_ascii_digit, digit_value}
use Rattle.std.specs.Cmp.Lexicographic.{slice_cmp}
use Rattle.std.specs.List.{list_all}
use Rattle.std.specs.Ordering.{ordering_then}
use Rattle.std.specs.Str.Parse.{digits_value, digits_value_after}
use Rattle.jiff_core.proofs.CalendarLemmas.{days_from_civil-day_count, day_count-lt_year, day_count-lt_month, day_count-day}
use Rattle.jiff_core.proofs.SignedLemmas.{signed_arith}
use Rattle.jiff_core.specs.Calendar.{IsCivilDate, day_count, days_from_civil, days_in_month}
use Rattle.fv_datum.proofs.DigitLemmas.{digit_is, digits_small}
use Rattle.fv_datum.specs.Days.{has_date_form, year_of, month_of, month_day_of, is_calendar_day, calendar_day, day_of}
use Rattle.fv_datum.specs.Decimals.{are_digits}

both : (a b : Bool) → (a && b) ≡ true → (a ≡ true) × (b ≡ true)
both true b e = (refl, e)
both false b e = cc

less : (a b : ℕ) → a < b → nat_cmp a b ≡ Less
less a b h = grind (arith, nat_tests)

same : (a b : ℕ) → a ≡ b → nat_cmp a b ≡ Equal
same a b h = grind (arith, nat_tests)

more : (a b : ℕ) → b < a → nat_cmp a b ≡ Greater
more a b h = grind (arith, nat_tests)

abbrev pub digits : List ℕ → Type 0
digits s = list_all is_ascii_digit s ≡ true

-- digits behind a smaller number write a smaller one
after : (xs ys : List ℕ) (n m : ℕ) → length xs ≡ length ys → digits xs → digits ys → n < m → digits_value_after 10 n xs < digits_value_after 10 m ys
after [] [] n m e p q h = h
after [] (y ∷ ys) n m e p q h = absurd (omega arith)
after (x ∷ xs) [] n m e p q h = absurd (omega arith)
after (x ∷ xs) (y ∷ ys) n m e p q h =
    let p2 = both (is_ascii_digit x) (list_all is_ascii_digit xs) p in
    let q2 = both (is_ascii_digit y) (list_all is_ascii_digit ys) q in
    let dx = digit_is x p2.0 in
    let dy = digit_is y q2.0 in
    after xs ys (n * 10 + digit_value x) (m * 10 + digit_value y) (omega arith) p2.1 q2.1 (omega arith)

-- as many digits compare as the numbers that they write
written : (xs ys : List ℕ) (n : ℕ) → length xs ≡ length ys → digits xs → digits ys → slice_cmp nat_cmp xs ys ≡ nat_cmp (digits_value_after 10 n xs) (digits_value_after 10 n ys)
written [] [] n e p q = sym (same n n refl)
written [] (y ∷ ys) n e p q = absurd (omega arith)
written (x ∷ xs) [] n e p q = absurd (omega arith)
written (x ∷ xs) (y ∷ ys) n e p q =
    let p2 = both (is_ascii_digit x) (list_all is_ascii_digit xs) p in
    let q2 = both (is_ascii_digit y) (list_all is_ascii_digit ys) q in
    let dx = digit_is x p2.0 in
    let dy = digit_is y q2.0 in
    let long : length xs ≡ length ys = omega arith in
    elim (cases_order x y) [
      | inl is ↦ rw (same x y is, is) (written xs ys (n * 10 + digit_value y) long p2.1 q2.1)
      | inr (inl lt) ↦ rw (less x y lt) (sym (less _ _ (after xs ys (n * 10 + digit_value x) (n * 10 + digit_value y) long p2.1 q2.1 (omega arith))))
      | inr (inr gt) ↦ rw (more x y gt) (sym (more _ _ (after ys xs (n * 10 + digit_value y) (n * 10 + digit_value x) (sym long) q2.1 p2.1 (omega arith))))
    ]

-- of two texts with beginnings of one length these are compared first
joined : (xs ys us vs : List ℕ) → length xs ≡ length ys → slice_cmp nat_cmp (xs ++ us) (ys ++ vs) ≡ ordering_then (slice_cmp nat_cmp xs ys) (slice_cmp nat_cmp us vs)
joined [] [] us vs e = refl
joined [] (y ∷ ys) us vs e = absurd (omega arith)
joined (x ∷ xs) [] us vs e = absurd (omega arith)
joined (x ∷ xs) (y ∷ ys) us vs e =
    elim (cases_order x y) [
      | inl is ↦ rw (same x y is) (joined xs ys us vs (omega arith))
      | inr (inl lt) ↦ rw (less x y lt) refl
      | inr (inr gt) ↦ rw (more x y gt) refl
    ]

-- ---- the parts of a date's text

abbrev year_part : List ℕ → List ℕ
year_part s = take 4 s

abbrev month_part : List ℕ → List ℕ
month_part s = take 2 (drop 5 s)

abbrev day_part : List ℕ → List ℕ
day_part s = take 2 (drop 8 s)

-- three parts with `-` between
abbrev of_parts : List ℕ → List ℕ → List ℕ → List ℕ
of_parts y m d = y ++ (45 ∷ (m ++ (45 ∷ d)))

-- four digits, two digits and two digits with `-` between
record Form (s : List ℕ) : Type 0 where
  year_long : length (year_part s) ≡ 4
  month_long : length (month_part s) ≡ 2
  day_long : length (day_part s) ≡ 2
  year : are_digits (year_part s) ≡ true
  month : are_digits (month_part s) ≡ true
  day : are_digits (day_part s) ≡ true
  is : s ≡ of_parts (year_part s) (month_part s) (day_part s)

two_more : (s : List ℕ) → length s ≡ 10 → drop 5 s ≡ month_part s ++ drop 7 s
two_more s h =
    let a = drop-cons s 5 0 (omega arith) in
    let b = drop-cons s 6 0 (omega arith) in
    rw (a, b) refl

parts_are : (s : List ℕ) → length s ≡ 10 → get_or s 4 0 ≡ 45 → get_or s 7 0 ≡ 45 → s ≡ of_parts (year_part s) (month_part s) (day_part s)
parts_are s h p q =
    let day : day_part s ≡ drop 8 s = take_all 2 (drop 8 s) (omega (arith, length-drop 8 s)) in
    let d7 : drop 7 s ≡ 45 ∷ day_part s = drop-cons s 7 0 (omega arith) ∙ ap (λ c. c ∷ drop 8 s) q ∙ ap (λ r. 45 ∷ r) (sym day) in
    let d5 = two_more s h ∙ ap (λ r. month_part s ++ r) d7 in
    let d4 = drop-cons s 4 0 (omega arith) ∙ ap (λ c. c ∷ drop 5 s) p ∙ ap (λ r. 45 ∷ r) d5 in
    sym (take-append-drop 4 s) ∙ ap (λ r. year_part s ++ r) d4

form_of : (s : List ℕ) → has_date_form s ≡ true → Form s
form_of s e =
    let day = both _ (are_digits (day_part s)) e in
    let second = both _ (nat_eq (slice_index s 7) 45) day.0 in
    let month = both _ (are_digits (month_part s)) second.0 in
    let first = both _ (nat_eq (slice_index s 4) 45) month.0 in
    let year = both _ (are_digits (year_part s)) first.0 in
    let long = eqb-true (length s) 10 year.0 in
    let is = parts_are s long (eqb-true _ 45 first.1) (eqb-true _ 45 second.1) in
    record {
      year_long = omega (arith, length-take 4 s);
      month_long = omega (arith, length-take 2 (drop 5 s), length-drop 5 s);
      day_long = omega (arith, length-take 2 (drop 8 s), length-drop 8 s);
      year = year.1;
      month = month.1;
      day = day.1;
      is = is;
    }

all_of : (s : List ℕ) → are_digits s ≡ true → digits s
all_of s e = (both _ (list_all is_ascii_digit s) e).1

-- two parts of one length compare as their numbers
numbers : (xs ys : List ℕ) (n : ℕ) → length xs ≡ n → length ys ≡ n → are_digits xs ≡ true → are_digits ys ≡ true → slice_cmp nat_cmp xs ys ≡ nat_cmp (digits_value 10 xs) (digits_value 10 ys)
numbers xs ys n e f p q = written xs ys 0 (e ∙ sym f) (all_of xs p) (all_of ys q)

-- texts of a date's form compare by the year, then by the month, then by the day
compared : (x y : List ℕ) → Form x → Form y → slice_cmp nat_cmp x y ≡ ordering_then (nat_cmp (year_of x) (year_of y)) (ordering_then (nat_cmp (month_of x) (month_of y)) (nat_cmp (month_day_of x) (month_day_of y)))
compared x y f g =
    let years = numbers (year_part x) (year_part y) 4 f.year_long g.year_long f.year g.year in
    let months = numbers (month_part x) (month_part y) 2 f.month_long g.month_long f.month g.month in
    let days = numbers (day_part x) (day_part y) 2 f.day_long g.day_long f.day g.day in
    let behind = joined (month_part x) (month_part y) (45 ∷ day_part x) (45 ∷ day_part y) (f.month_long ∙ sym g.month_long) in
    let front = joined (year_part x) (year_part y) (45 ∷ (month_part x ++ (45 ∷ day_part x))) (45 ∷ (month_part y ++ (45 ∷ day_part y))) (f.year_long ∙ sym g.year_long) in
    ap (λ s. slice_cmp nat_cmp s y) f.is
    ∙ ap (λ s. slice_cmp nat_cmp (of_parts (year_part x) (month_part x) (day_part x)) s) g.is
    ∙ front
    ∙ rw (years, behind, months, days) refl

-- ---- the days

given : (b : Bool) (o : Option ℤ) (z : ℤ) → cond b o None ≡ Some z → (b ≡ true) × (o ≡ Some z)
given true o z e = (refl, e)
given false o z e = cc

some : (a b : ℤ) → Some a ≡ Some b → b ≡ a
some a b e = cc

-- the text is a date, of that day
record Dated (s : List ℕ) (z : ℤ) : Type 0 where
  form : Form s
  civil : IsCivilDate (pos (year_of s)) (month_of s) (month_day_of s)
  is : z ≡ days_from_civil (pos (year_of s)) (month_of s) (month_day_of s)

civil_of : (y m d : ℕ) → y < 10000 → is_calendar_day y m d ≡ true → IsCivilDate (pos y) m d
civil_of y m d small e =
    let day_end = both _ (nat_le d (days_in_month (pos y) m)) e in
    let day = both _ (nat_le 1 d) day_end.0 in
    let month_end = both _ (nat_le m 12) day.0 in
    let month = both _ (nat_le 1 m) month_end.0 in
    ((omega (arith, signed_arith), omega (arith, signed_arith)), (leb-true 1 m month.1, leb-true m 12 month_end.1), (leb-true 1 d day.1, leb-true d _ day_end.1))

dated : (s : List ℕ) (z : ℤ) → day_of s ≡ Some z → Dated s z
dated s z e =
    let one = given (has_date_form s) (calendar_day (year_of s) (month_of s) (month_day_of s)) z e in
    let two = given (is_calendar_day (year_of s) (month_of s) (month_day_of s)) (Some (days_from_civil (pos (year_of s)) (month_of s) (month_day_of s))) z one.1 in
    let form = form_of s one.0 in
    let few = digits_small (year_part s) form.year in
    let small : year_of s < 10000 = rw form.year_long at few in
    record { form = form; civil = civil_of _ _ _ small two.0; is = some _ z two.1 }

less_z : (a b : ℤ) → a <ℤ b → int_cmp a b ≡ Less
less_z a b h = grind (arith, ints)

same_z : (a b : ℤ) → a ≡ b → int_cmp a b ≡ Equal
same_z a b h = grind (arith, ints)

more_z : (a b : ℤ) → b <ℤ a → int_cmp a b ≡ Greater
more_z a b h = grind (arith, ints)

-- more days before a date, a later day
later : (y : ℤ) (m d : ℕ) (y₂ : ℤ) (m₂ d₂ : ℕ) (a b : ℤ) → a ≡ days_from_civil y m d → b ≡ days_from_civil y₂ m₂ d₂ → day_count y m d < day_count y₂ m₂ d₂ → a <ℤ b
later y m d y₂ m₂ d₂ a b p q h = rw (p, q) (omega (arith, signed_arith, days_from_civil-day_count y m d, days_from_civil-day_count y₂ m₂ d₂))

later_year : (x y : List ℕ) (a b : ℤ) → Dated x a → Dated y b → year_of x < year_of y → a <ℤ b
later_year x y a b f g h =
    later _ _ _ _ _ _ a b f.is g.is (day_count-lt_year _ _ _ _ (month_of y) (month_day_of y) f.civil g.civil.2.0 (omega (arith, signed_arith)))

later_month : (x y : List ℕ) (a b : ℤ) → Dated x a → Dated y b → year_of x ≡ year_of y → month_of x < month_of y → a <ℤ b
later_month x y a b f g e h =
    later _ _ _ _ _ _ a b f.is g.is (rw (← e) (day_count-lt_month _ _ _ _ (month_day_of y) f.civil g.civil.2.0 h))

later_day : (x y : List ℕ) (a b : ℤ) → Dated x a → Dated y b → year_of x ≡ year_of y → month_of x ≡ month_of y → month_day_of x < month_day_of y → a <ℤ b
later_day x y a b f g e k h =
    later _ _ _ _ _ _ a b f.is g.is (rw (← e, ← k) (omega (arith, h, day_count-day (pos (year_of x)) (month_of x) (month_day_of x) (month_day_of y) f.civil.2.0 g.civil.2.0)))

same_day : (x y : List ℕ) (a b : ℤ) → Dated x a → Dated y b → year_of x ≡ year_of y → month_of x ≡ month_of y → month_day_of x ≡ month_day_of y → a ≡ b
same_day x y a b f g e k h = f.is ∙ rw (e, k, h) (sym g.is)

-- the law: the bytes of two dates compare as their days
pub date_order : (x y : List ℕ) (a b : ℤ) → day_of x ≡ Some a → day_of y ≡ Some b → slice_cmp nat_cmp x y ≡ int_cmp a b
date_order x y a b p q =
    let f = dated x a p in
    let g = dated y b q in
    let is = compared x y f.form g.form in
    elim (cases_order (year_of x) (year_of y)) [
      | inr (inl lt) ↦ is ∙ rw (less _ _ lt) (sym (less_z a b (later_year x y a b f g lt)))
      | inr (inr gt) ↦ is ∙ rw (more _ _ gt) (sym (more_z a b (later_year y x b a g f gt)))
      | inl e ↦ elim (cases_order (month_of x) (month_of y)) [
        | inr (inl lt) ↦ is ∙ rw (same _ _ e, less _ _ lt) (sym (less_z a b (later_month x y a b f g e lt)))
        | inr (inr gt) ↦ is ∙ rw (same _ _ e, more _ _ gt) (sym (more_z a b (later_month y x b a g f (sym e) gt)))
        | inl k ↦ elim (cases_order (month_day_of x) (month_day_of y)) [
          | inr (inl lt) ↦ is ∙ rw (same _ _ e, same _ _ k, less _ _ lt) (sym (less_z a b (later_day x y a b f g e k lt)))
          | inr (inr gt) ↦ is ∙ rw (same _ _ e, same _ _ k, more _ _ gt) (sym (more_z a b (later_day y x b a g f (sym e) (sym k) gt)))
          | inl h ↦ is ∙ rw (same _ _ e, same _ _ k, same _ _ h) (sym (same_z a b (same_day x y a b f g e k h)))
        ]
      ]
    ]
