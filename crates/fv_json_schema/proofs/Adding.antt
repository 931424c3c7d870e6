-- What is asked beside a constraint.
use Rattle.std.proofs.Common.{negsuc, neg_ℤ, ◌-◌, lit<, true≢false, not, max, min, nat_le, ◌&&◌, ◌<◌, ◌^◌, ◌↔◌, nat_lt, unsigned_abs, ◌*◌, ◌%◌, Result, Ok, Err, OnOk, ◌≡◌, ◌≢◌, ℕ, ℤ, pos, ◌≤◌, ◌≤ℤ◌, Bool, true, false, inl, inr, FitsSigned, refl, sym, ap, subst, ◌∙◌, arith}
use Rattle.std.proofs.Math.Nat.{mul-div_cancel, mul-mod_left}
use Rattle.std.proofs.lemmas.Bool.{lt-ltb}
use borrow.Author.Tests.{ltb-true}
use Rattle.std.proofs.lemmas.Int.{ints, unsigned_abs-mul}
use Rattle.std.specs.Int.{w64}
use Rattle.fv_builtin.specs.BuiltIns.{BuiltIn}
use Rattle.fv_builtin.specs.BuiltIns as built
use Rattle.std.proofs.lemmas.Bool.Decides.{nat_tests}
use Rattle.fv_builtin.specs.Numbers.{number_of, has_integral, has_fraction}
use Rattle.fv_builtin.specs.Passing.{passes}
use Rattle.fv_builtin.specs.Says.{says}
use Rattle.fv_datum.specs.Data.{Data, null, text, integer, decimal, boolean, date, instant, reference, list, map, optional}
use Rattle.fv_datum.specs.Written.{is_null}
use Rattle.fv_datum.specs.declared.kind.Kind.{Kind}
use Rattle.fv_datum.specs.declared.kind.Kind.TheVariants as kind
use Rattle.fv_json_schema.specs.declared.asked.Asked.{Asked}
use Rattle.fv_json_schema.specs.Asked.{IsOf, IsWithin, Takes, is_from, is_up_to, is_said, HasWhole, Adds}
use Rattle.fv_json_schema.specs.Bounds.{units_of}

-- the two differ in nothing but bounds of numbers, and in those only for integers
pub record ArePlaced (old new : Asked) : Type 0 where
  pub same_kind : new.kind ≡ old.kind
  pub no_null : new.refuses_null ≡ old.refuses_null
  pub no_data : new.refuses_data ≡ old.refuses_data
  pub on_true : new.takes_true ≡ old.takes_true
  pub on_false : new.takes_false ≡ old.takes_false
  pub smallest : new.smallest ≡ old.smallest
  pub largest : new.largest ≡ old.largest
  pub least : old.kind ≢ kind.Integer → new.least ≡ old.least
  pub most : old.kind ≢ kind.Integer → new.most ≡ old.most

-- an instant's kind isn't that of integers
apart : (k : Kind) → k ≡ kind.Instant → k ≡ kind.Integer → ⊥
apart k h e = cc

-- what is asked of numbers by a test adds a constraint that says the same of them and nothing else
pub of_numbers : (old new : Asked) (b : BuiltIn) (test : ℤ → Bool) → ArePlaced old new
    → ((d : Data) (now : ℤ) → says b d now ≡ passes test (number_of d))
    → ((n : ℤ) → FitsSigned w64 n → (old.least ≤ℤ n) × (n ≤ℤ old.most) → test (units_of n) ≡ true → (new.least ≤ℤ n) × (n ≤ℤ new.most))
    → ((n : ℤ) → (new.least ≤ℤ n) × (n ≤ℤ new.most) → (old.least ≤ℤ n) × (n ≤ℤ old.most))
    → (old.kind ≡ kind.Integer → (m n : ℤ) → FitsSigned w64 m → FitsSigned w64 n → test (units_of m) ≡ true
    → (new.least ≤ℤ n) × (n ≤ℤ new.most) → test (units_of n) ≡ true)
    → Adds old new b
of_numbers old new b test p is sound kept said = record {
  same_kind = p.same_kind;
  sound = takes_more;
  kept = takes_less;
  said = is_told;
}
  where
    unmoved : (n : ℤ) → old.kind ≡ kind.Instant → ((old.least ≤ℤ n) × (n ≤ℤ old.most) → (new.least ≤ℤ n) × (n ≤ℤ new.most)) × ((new.least ≤ℤ n) × (n ≤ℤ new.most) → (old.least ≤ℤ n) × (n ≤ℤ old.most))
    unmoved n at = ((λ h. (rw (p.least (apart old.kind at)) h.0, rw (p.most (apart old.kind at)) h.1)), kept n)

    takes_more : (d : Data) (now : ℤ) → IsOf d old.kind → Takes old d → says b d now ≡ true → Takes new d
    takes_more null now of t s = p.no_null ∙ t
    takes_more (text x) now of t s = (p.no_data ∙ t.0, (rw p.smallest t.1.0, rw p.largest t.1.1))
    takes_more (integer n) now of t s = (p.no_data ∙ t.0, sound n of.1 t.1 (sym (is (integer n) now) ∙ s))
    takes_more (decimal x) now of t s = p.no_data ∙ t
    takes_more (boolean true) now of t s = (p.no_data ∙ t.0, p.on_true ∙ t.1)
    takes_more (boolean false) now of t s = (p.no_data ∙ t.0, p.on_false ∙ t.1)
    takes_more (date x) now of t s = p.no_data ∙ t
    takes_more (instant n) now of t s = (p.no_data ∙ t.0, (unmoved n of.0).0 t.1)
    takes_more (reference x) now of t s = p.no_data ∙ t
    takes_more (list x) now of t s = (p.no_data ∙ t.0, (rw p.smallest t.1.0, rw p.largest t.1.1))
    takes_more (map x) now of t s = (p.no_data ∙ t.0, (rw p.smallest t.1.0, rw p.largest t.1.1))
    takes_more (optional x) now of t s = p.no_data ∙ t

    takes_less : (d : Data) → IsOf d old.kind → Takes new d → Takes old d
    takes_less null of t = sym p.no_null ∙ t
    takes_less (text x) of t = (sym p.no_data ∙ t.0, (rw (← p.smallest) t.1.0, rw (← p.largest) t.1.1))
    takes_less (integer n) of t = (sym p.no_data ∙ t.0, kept n t.1)
    takes_less (decimal x) of t = sym p.no_data ∙ t
    takes_less (boolean true) of t = (sym p.no_data ∙ t.0, sym p.on_true ∙ t.1)
    takes_less (boolean false) of t = (sym p.no_data ∙ t.0, sym p.on_false ∙ t.1)
    takes_less (date x) of t = sym p.no_data ∙ t
    takes_less (instant n) of t = (sym p.no_data ∙ t.0, kept n t.1)
    takes_less (reference x) of t = sym p.no_data ∙ t
    takes_less (list x) of t = (sym p.no_data ∙ t.0, (rw (← p.smallest) t.1.0, rw (← p.largest) t.1.1))
    takes_less (map x) of t = (sym p.no_data ∙ t.0, (rw (← p.smallest) t.1.0, rw (← p.largest) t.1.1))
    takes_less (optional x) of t = sym p.no_data ∙ t

    some_whole : (now : ℤ) → HasWhole b now → (m : ℤ) × FitsSigned w64 m × (test (units_of m) ≡ true)
    some_whole now (inl none) = let other = ap (λ c. says c (boolean true) now) none in let there = is (boolean true) now in cc
    some_whole now (inr h) = (h.0, h.1, sym (is (integer h.0) now) ∙ h.2)

    is_told : (d : Data) (now : ℤ) → IsOf d old.kind → is_said d b ≡ true → HasWhole b now → Takes new d → says b d now ≡ true
    is_told null now of s has t = is null now
    is_told (text x) now of s has t = is (text x) now
    is_told (integer n) now of s has t =
        let whole = some_whole now has in is (integer n) now ∙ said of.0 whole.0 n whole.1 of.1 whole.2 t.1
    is_told (decimal x) now of s has t = cc
    is_told (boolean v) now of s has t = is (boolean v) now
    is_told (date x) now of s has t = cc
    is_told (instant n) now of s has t = cc
    is_told (reference x) now of s has t = is (reference x) now
    is_told (list x) now of s has t = is (list x) now
    is_told (map x) now of s has t = is (map x) now
    is_told (optional x) now of s has t = is (optional x) now

-- what is asked from a bound adds a constraint that says the same
pub from_adds : {T E : Type 0} (r : Result T E) (old new : Asked) (bound : ℤ) (inclusive : Bool) (b : BuiltIn)
    → ((d : Data) (now : ℤ) → says b d now ≡ passes (is_from bound inclusive) (number_of d))
    → OnOk r (new ≡ record old { least = new.least; patterns = new.patterns })
    → OnOk r (old.kind ≢ kind.Integer → new.least ≡ old.least)
    → OnOk r ((n : ℤ) → FitsSigned w64 n → old.least ≤ℤ n → is_from bound inclusive (units_of n) ≡ true → new.least ≤ℤ n)
    → OnOk r (old.least ≤ℤ new.least)
    → OnOk r (old.kind ≡ kind.Integer → (m n : ℤ) → FitsSigned w64 m → FitsSigned w64 n → is_from bound inclusive (units_of m) ≡ true → new.least ≤ℤ n
    → is_from bound inclusive (units_of n) ≡ true)
    → OnOk r (Adds old new b)
from_adds (Err e) old new bound inclusive b is kept others sound asked said = tt
from_adds (Ok x) old new bound inclusive b is kept others sound asked said = of_numbers old new b (is_from bound inclusive)
    (record {
      same_kind = ap (λ a. a.kind) kept;
      no_null = ap (λ a. a.refuses_null) kept;
      no_data = ap (λ a. a.refuses_data) kept;
      on_true = ap (λ a. a.takes_true) kept;
      on_false = ap (λ a. a.takes_false) kept;
      smallest = ap (λ a. a.smallest) kept;
      largest = ap (λ a. a.largest) kept;
      least = others;
      most = λ h. ap (λ a. a.most) kept;
    }) is
    (λ n fits h t. let e : new.most ≡ old.most = ap (λ a. a.most) kept in (sound n fits h.0 t, rw e h.1))
    (λ n h. let e : new.most ≡ old.most = ap (λ a. a.most) kept in (omega (arith, ints), rw (← e) h.1))
    (λ at m n fm fn t h. said at m n fm fn t h.0)

-- what is asked up to a bound adds a constraint that says the same
pub up_to_adds : {T E : Type 0} (r : Result T E) (old new : Asked) (bound : ℤ) (inclusive : Bool) (b : BuiltIn)
    → ((d : Data) (now : ℤ) → says b d now ≡ passes (is_up_to bound inclusive) (number_of d))
    → OnOk r (new ≡ record old { most = new.most; patterns = new.patterns })
    → OnOk r (old.kind ≢ kind.Integer → new.most ≡ old.most)
    → OnOk r ((n : ℤ) → FitsSigned w64 n → n ≤ℤ old.most → is_up_to bound inclusive (units_of n) ≡ true → n ≤ℤ new.most)
    → OnOk r (new.most ≤ℤ old.most)
    → OnOk r (old.kind ≡ kind.Integer → (m n : ℤ) → FitsSigned w64 m → FitsSigned w64 n → is_up_to bound inclusive (units_of m) ≡ true → n ≤ℤ new.most
    → is_up_to bound inclusive (units_of n) ≡ true)
    → OnOk r (Adds old new b)
up_to_adds (Err e) old new bound inclusive b is kept others sound asked said = tt
up_to_adds (Ok x) old new bound inclusive b is kept others sound asked said = of_numbers old new b (is_up_to bound inclusive)
    (record {
      same_kind = ap (λ a. a.kind) kept;
      no_null = ap (λ a. a.refuses_null) kept;
      no_data = ap (λ a. a.refuses_data) kept;
      on_true = ap (λ a. a.takes_true) kept;
      on_false = ap (λ a. a.takes_false) kept;
      smallest = ap (λ a. a.smallest) kept;
      largest = ap (λ a. a.largest) kept;
      least = λ h. ap (λ a. a.least) kept;
      most = others;
    }) is
    (λ n fits h t. let e : new.least ≡ old.least = ap (λ a. a.least) kept in (rw e h.0, sound n fits h.1 t))
    (λ n h. let e : new.least ≡ old.least = ap (λ a. a.least) kept in (rw (← e) h.0, omega (arith, ints)))
    (λ at m n fm fn t h. said at m n fm fn t h.1)

-- where two are equal, one adds what the other does
pub adds_at : {T E : Type 0} (r : Result T E) (old made new : Asked) (b : BuiltIn) → Adds old made b → OnOk r (new ≡ made) → OnOk r (Adds old new b)
adds_at (Err e) old made new b adds is = tt
adds_at (Ok x) old made new b adds is = subst (λ a. Adds old a b) (sym is) adds

-- ---- null, and booleans

pub null_adds : (old : Asked) → Adds old (record old { refuses_data = true }) built.null
null_adds old = record {
  same_kind = refl;
  sound = more;
  kept = less;
  said = told;
}
  where
    more : (d : Data) (now : ℤ) → IsOf d old.kind → Takes old d → says built.null d now ≡ true → Takes (record old { refuses_data = true }) d
    more null now of t s = t
    more _ now of t s = cc

    less : (d : Data) → IsOf d old.kind → Takes (record old { refuses_data = true }) d → Takes old d
    less null of t = t
    less (text x) of t = absurd (true≢false t.0)
    less (integer x) of t = absurd (true≢false t.0)
    less (decimal x) of t = cc
    less (boolean x) of t = absurd (true≢false t.0)
    less (date x) of t = cc
    less (instant x) of t = absurd (true≢false t.0)
    less (reference x) of t = cc
    less (list x) of t = absurd (true≢false t.0)
    less (map x) of t = absurd (true≢false t.0)
    less (optional x) of t = cc

    told : (d : Data) (now : ℤ) → IsOf d old.kind → is_said d built.null ≡ true → HasWhole built.null now → Takes (record old { refuses_data = true }) d → says built.null d now ≡ true
    told null now of s has t = refl
    told (text x) now of s has t = absurd (true≢false t.0)
    told (integer x) now of s has t = absurd (true≢false t.0)
    told (decimal x) now of s has t = cc
    told (boolean x) now of s has t = absurd (true≢false t.0)
    told (date x) now of s has t = cc
    told (instant x) now of s has t = cc
    told (reference x) now of s has t = cc
    told (list x) now of s has t = absurd (true≢false t.0)
    told (map x) now of s has t = absurd (true≢false t.0)
    told (optional x) now of s has t = cc

-- what adds null to the data that are refused, and changes nothing else, adds a constraint that refuses null alone, as far as it is said
pub no_null_adds : (old : Asked) (b : BuiltIn) → ((now : ℤ) → says b null now ≡ false)
    → ((d : Data) (now : ℤ) → is_null d ≡ false → is_said d b ≡ true → says b d now ≡ true)
    → Adds old (record old { refuses_null = true }) b
no_null_adds old b none others = record {
  same_kind = refl;
  sound = more;
  kept = less;
  said = told;
}
  where
    more : (d : Data) (now : ℤ) → IsOf d old.kind → Takes old d → says b d now ≡ true → Takes (record old { refuses_null = true }) d
    more null now of t s = let h = none now in cc
    more _ now of t s = t

    less : (d : Data) → IsOf d old.kind → Takes (record old { refuses_null = true }) d → Takes old d
    less null of t = absurd (true≢false t)
    less _ of t = t

    told : (d : Data) (now : ℤ) → IsOf d old.kind → is_said d b ≡ true → HasWhole b now → Takes (record old { refuses_null = true }) d → says b d now ≡ true
    told null now of s has t = absurd (true≢false t)
    told d now of s has t = others d now refl s

pub not_null_adds : (old : Asked) → Adds old (record old { refuses_null = true }) built.not_null
not_null_adds old = no_null_adds old built.not_null (λ now. refl) (λ d now some s. ap not some)

pub true_adds : (old : Asked) → Adds old (record old { takes_false = false }) built.assert_true
true_adds old = record {
  same_kind = refl;
  sound = more;
  kept = less;
  said = told;
}
  where
    more : (d : Data) (now : ℤ) → IsOf d old.kind → Takes old d → says built.assert_true d now ≡ true → Takes (record old { takes_false = false }) d
    more (boolean false) now of t s = absurd (true≢false (sym s))
    more _ now of t s = t

    less : (d : Data) → IsOf d old.kind → Takes (record old { takes_false = false }) d → Takes old d
    less (boolean false) of t = absurd (true≢false (sym t.1))
    less _ of t = t

    told : (d : Data) (now : ℤ) → IsOf d old.kind → is_said d built.assert_true ≡ true → HasWhole built.assert_true now → Takes (record old { takes_false = false }) d
        → says built.assert_true d now ≡ true
    told (boolean false) now of s has t = absurd (true≢false (sym t.1))
    told _ now of s has t = refl

pub false_adds : (old : Asked) → Adds old (record old { takes_true = false }) built.assert_false
false_adds old = record {
  same_kind = refl;
  sound = more;
  kept = less;
  said = told;
}
  where
    more : (d : Data) (now : ℤ) → IsOf d old.kind → Takes old d → says built.assert_false d now ≡ true → Takes (record old { takes_true = false }) d
    more (boolean true) now of t s = absurd (true≢false (sym s))
    more _ now of t s = t

    less : (d : Data) → IsOf d old.kind → Takes (record old { takes_true = false }) d → Takes old d
    less (boolean true) of t = absurd (true≢false (sym t.1))
    less _ of t = t

    told : (d : Data) (now : ℤ) → IsOf d old.kind → is_said d built.assert_false ≡ true → HasWhole built.assert_false now → Takes (record old { takes_true = false }) d
        → says built.assert_false d now ≡ true
    told (boolean true) now of s has t = absurd (true≢false (sym t.1))
    told _ now of s has t = refl

-- ---- sizes

within : (l n m : ℕ) → nat_le l n && nat_le n m ≡ true → (l ≤ n) × (n ≤ m)
within l n m h = grind (arith, nat_tests)

are_within : (l n m : ℕ) → l ≤ n → n ≤ m → nat_le l n && nat_le n m ≡ true
are_within l n m h k = grind (arith, nat_tests)

pub size_adds : (old : Asked) (l m : ℕ) → Adds old (record old { smallest = max old.smallest l; largest = min old.largest m }) (built.size l m)
size_adds old l m = record {
  same_kind = refl;
  sound = more;
  kept = less;
  said = told;
}
  where
    sized : (n : ℕ) → (old.smallest ≤ n) × (n ≤ old.largest) → nat_le l n && nat_le n m ≡ true → (max old.smallest l ≤ n) × (n ≤ min old.largest m)
    sized n t s = let h = within l n m s in (omega arith, omega arith)

    smaller : (n : ℕ) → (max old.smallest l ≤ n) × (n ≤ min old.largest m) → (old.smallest ≤ n) × (n ≤ old.largest)
    smaller n t = (omega arith, omega arith)

    asked : (n : ℕ) → (max old.smallest l ≤ n) × (n ≤ min old.largest m) → nat_le l n && nat_le n m ≡ true
    asked n t = are_within l n m (omega arith) (omega arith)

    more : (d : Data) (now : ℤ) → IsOf d old.kind → Takes old d → says (built.size l m) d now ≡ true
        → Takes (record old { smallest = max old.smallest l; largest = min old.largest m }) d
    more (text x) now of t s = (t.0, sized _ t.1 s)
    more (list x) now of t s = (t.0, sized _ t.1 s)
    more (map x) now of t s = (t.0, sized _ t.1 s)
    more _ now of t s = t

    less : (d : Data) → IsOf d old.kind → Takes (record old { smallest = max old.smallest l; largest = min old.largest m }) d → Takes old d
    less (text x) of t = (t.0, smaller _ t.1)
    less (list x) of t = (t.0, smaller _ t.1)
    less (map x) of t = (t.0, smaller _ t.1)
    less _ of t = t

    told : (d : Data) (now : ℤ) → IsOf d old.kind → is_said d (built.size l m) ≡ true → HasWhole (built.size l m) now
        → Takes (record old { smallest = max old.smallest l; largest = min old.largest m }) d → says (built.size l m) d now ≡ true
    told (text x) now of s has t = asked _ t.1
    told (list x) now of s has t = asked _ t.1
    told (map x) now of s has t = asked _ t.1
    told _ now of s has t = refl

is_positive : (n : ℕ) → nat_lt 0 n ≡ true → 1 ≤ n
is_positive n h = grind (arith, nat_tests)

positive_is : (n : ℕ) → 1 ≤ n → nat_lt 0 n ≡ true
positive_is n h = grind (arith, nat_tests)

pub not_empty_adds : (old : Asked) → Adds old (record old { refuses_null = true; smallest = max old.smallest 1 }) built.not_empty
not_empty_adds old = record {
  same_kind = refl;
  sound = more;
  kept = less;
  said = told;
}
  where
    sized : (n : ℕ) → (old.smallest ≤ n) × (n ≤ old.largest) → nat_lt 0 n ≡ true → (max old.smallest 1 ≤ n) × (n ≤ old.largest)
    sized n t s = let h = is_positive n s in (omega arith, t.1)

    smaller : (n : ℕ) → (max old.smallest 1 ≤ n) × (n ≤ old.largest) → (old.smallest ≤ n) × (n ≤ old.largest)
    smaller n t = (omega arith, t.1)

    asked : (n : ℕ) → (max old.smallest 1 ≤ n) × (n ≤ old.largest) → nat_lt 0 n ≡ true
    asked n t = positive_is n (omega arith)

    more : (d : Data) (now : ℤ) → IsOf d old.kind → Takes old d → says built.not_empty d now ≡ true
        → Takes (record old { refuses_null = true; smallest = max old.smallest 1 }) d
    more null now of t s = absurd (true≢false (sym s))
    more (text x) now of t s = (t.0, sized _ t.1 s)
    more (list x) now of t s = (t.0, sized _ t.1 s)
    more (map x) now of t s = (t.0, sized _ t.1 s)
    more _ now of t s = t

    less : (d : Data) → IsOf d old.kind → Takes (record old { refuses_null = true; smallest = max old.smallest 1 }) d → Takes old d
    less null of t = absurd (true≢false t)
    less (text x) of t = (t.0, smaller _ t.1)
    less (list x) of t = (t.0, smaller _ t.1)
    less (map x) of t = (t.0, smaller _ t.1)
    less _ of t = t

    told : (d : Data) (now : ℤ) → IsOf d old.kind → is_said d built.not_empty ≡ true → HasWhole built.not_empty now
        → Takes (record old { refuses_null = true; smallest = max old.smallest 1 }) d → says built.not_empty d now ≡ true
    told null now of s has t = absurd (true≢false t)
    told (text x) now of s has t = asked _ t.1
    told (list x) now of s has t = asked _ t.1
    told (map x) now of s has t = asked _ t.1
    told _ now of s has t = refl

-- ---- what patterns say, or nothing

pub not_blank_adds : (old : Asked) → Adds old (record old { refuses_null = true }) built.not_blank
not_blank_adds old = no_null_adds old built.not_blank (λ now. refl) others
  where
    others : (d : Data) (now : ℤ) → is_null d ≡ false → is_said d built.not_blank ≡ true → says built.not_blank d now ≡ true
    others null now some s = cc
    others (text x) now some s = cc
    others _ now some s = refl

-- a constraint that isn't said of any datum but is met by all others
pub unsaid_adds : (old : Asked) (b : BuiltIn) → ((d : Data) (now : ℤ) → is_said d b ≡ true → says b d now ≡ true) → Adds old old b
unsaid_adds old b others = record {
  same_kind = refl;
  sound = λ d now of t s. t;
  kept = λ d of t. t;
  said = λ d now of s has t. others d now s;
}

-- what differs in patterns and in what is left out alone takes the same
pub same_adds : (old : Asked) (b : BuiltIn) (made new : Asked) → Adds old made b → new ≡ record made { patterns = new.patterns; left_out = new.left_out } → Adds old new b
same_adds old b made new adds is = subst (λ a. Adds old a b) (sym is) (record { same_kind = adds.same_kind; sound = more; kept = less; said = told })
  where
    takes : (d : Data) → Takes made d ↔ Takes (record made { patterns = new.patterns; left_out = new.left_out }) d
    takes null = ((λ t. t), (λ t. t))
    takes _ = ((λ t. t), (λ t. t))

    more : (d : Data) (now : ℤ) → IsOf d old.kind → Takes old d → says b d now ≡ true → Takes (record made { patterns = new.patterns; left_out = new.left_out }) d
    more d now of t s = (takes d).0 (adds.sound d now of t s)

    less : (d : Data) → IsOf d old.kind → Takes (record made { patterns = new.patterns; left_out = new.left_out }) d → Takes old d
    less d of t = adds.kept d of ((takes d).1 t)

    told : (d : Data) (now : ℤ) → IsOf d old.kind → is_said d b ≡ true → HasWhole b now → Takes (record made { patterns = new.patterns; left_out = new.left_out }) d
        → says b d now ≡ true
    told d now of s has t = adds.said d now of s has ((takes d).1 t)

-- ---- digits

-- a whole number has no digits behind the point, and as many before it as it has
digits_of_whole : (before fraction : ℕ) (n : ℤ) → (has_integral before (units_of n) && has_fraction fraction (units_of n)) ≡ nat_lt (unsigned_abs n) (10 ^ before)
digits_of_whole before fraction n = rw (unsigned_abs-mul n (pos (10 ^ 9)), mul-div_cancel (unsigned_abs n) {n = 10 ^ 9} (lit< tt), no_rest (unsigned_abs n) fraction) (and_true _)
  where
    no_rest : (a k : ℕ) → (a * 10 ^ 9 * 10 ^ k) % 10 ^ 9 ≡ 0
    no_rest a k = rw (swapped a k) (mul-mod_left (a * 10 ^ k) (10 ^ 9))
      where
        swapped : (a k : ℕ) → a * 10 ^ 9 * 10 ^ k ≡ a * 10 ^ k * 10 ^ 9
        swapped a k = omega arith

    and_true : (b : Bool) → (b && true) ≡ b
    and_true true = refl
    and_true false = refl

pub digits_adds : {T E : Type 0} (r : Result T E) (old new : Asked) (before fraction : ℕ)
    → OnOk r (new ≡ record old { least = new.least; most = new.most; patterns = new.patterns })
    → OnOk r (old.kind ≢ kind.Integer → (new.least ≡ old.least) × (new.most ≡ old.most))
    → OnOk r ((n : ℤ) → FitsSigned w64 n → IsWithin old n → unsigned_abs n < 10 ^ before → IsWithin new n)
    → OnOk r ((old.least ≤ℤ new.least) × (new.most ≤ℤ old.most))
    → OnOk r (old.kind ≡ kind.Integer → (n : ℤ) → FitsSigned w64 n → IsWithin new n → unsigned_abs n < 10 ^ before)
    → OnOk r (Adds old new (built.digits before fraction))
digits_adds (Err e) old new before fraction kept others sound asked said = tt
digits_adds (Ok x) old new before fraction kept others sound asked said =
    of_numbers old new (built.digits before fraction) (λ n. has_integral before n && has_fraction fraction n)
    (record {
      same_kind = ap (λ a. a.kind) kept;
      no_null = ap (λ a. a.refuses_null) kept;
      no_data = ap (λ a. a.refuses_data) kept;
      on_true = ap (λ a. a.takes_true) kept;
      on_false = ap (λ a. a.takes_false) kept;
      smallest = ap (λ a. a.smallest) kept;
      largest = ap (λ a. a.largest) kept;
      least = λ h. (others h).0;
      most = λ h. (others h).1;
    }) (λ d now. refl)
    (λ n fits h t. sound n fits h (ltb-true _ _ (sym (digits_of_whole before fraction n) ∙ t)))
    (λ n h. (omega (arith, ints, asked.0), omega (arith, ints, asked.1)))
    (λ at m n fm fn t h. digits_of_whole before fraction n ∙ lt-ltb _ _ (said at n fn h))

-- a number of at most so many digits is as far from 0 as the greatest of them
pub digits_within : (n whole : ℤ) (p : ℕ) → whole ≡ pos (p - 1) → 1 ≤ p → unsigned_abs n < p → (neg_ℤ whole ≤ℤ n) × (n ≤ℤ whole)
digits_within (pos k) whole p is some h = (omega (arith, ints), omega (arith, ints))
digits_within (negsuc k) whole p is some h = (omega (arith, ints), omega (arith, ints))

pub within_digits : (n whole : ℤ) (p : ℕ) → whole ≡ pos (p - 1) → 1 ≤ p → neg_ℤ whole ≤ℤ n → n ≤ℤ whole → unsigned_abs n < p
within_digits (pos k) whole p is some h m = omega (arith, ints)
within_digits (negsuc k) whole p is some h m = omega (arith, ints)
