-- The check's sum, as the loop adds it from the right.
use Rattle.std.proofs.Common.{◌≡◌, ℕ, ◌+◌, ◌%◌, ◌<◌, ◌≤◌, ◌∙◌, Bool, true, false, not, cond, List, [], ◌∷◌, length, get_or, take, reverse, refl, sym, ap, add_assoc, add-zero, arith}
use Rattle.std.proofs.Math.Nat.{mod-add-mod, mod-eq_of_lt}
use Rattle.std.proofs.lemmas.Bool.Decides.{nat_tests}
use Rattle.std.proofs.lemmas.List.{take_more, take_all, reverse-append}
use Rattle.std.proofs.lemmas.List.Sums.{AllPass-from_list_all}
use Rattle.std.proofs.lemmas.List.Elements.{All-get_or}
use Rattle.std.specs.List.{list_all}
use Rattle.std.specs.Char.{is_ascii_digit}
use Rattle.std.specs.Int.{is_in_range}
use Rattle.fv_house.specs.Luhn.{digit, doubled, luhn_sum}

-- the sum of digits, where the first is one of those that are doubled or isn't
abbrev pub flagged : Bool → List ℕ → ℕ
flagged second [] = 0
flagged second (b ∷ bs) = cond second (doubled (digit b)) (digit b) + flagged (not second) bs

pub flagged_is : (bs : List ℕ) → flagged false bs ≡ luhn_sum bs
flagged_is [] = refl
flagged_is (a ∷ []) = omega arith
flagged_is (a ∷ (b ∷ bs)) = rw (flagged_is bs) (sym (add_assoc (digit a) (doubled (digit b)) (luhn_sum bs)))

pub turn : (second : Bool) (bs : List ℕ) (i x : ℕ) → i < length bs → x ≡ get_or bs i x
    → flagged second (reverse (take (i + 1) bs)) ≡ cond second (doubled (digit x)) (digit x) + flagged (not second) (reverse (take i bs))
turn second bs i x h is = rw (take_more bs i x h, reverse-append, ← is) refl

in_range : (lo hi c : ℕ) → is_in_range lo hi c ≡ true → (lo ≤ c) × (c ≤ hi)
in_range lo hi c h = grind (arith, nat_tests)

pub digit_at : (bs : List ℕ) (i x : ℕ) → list_all is_ascii_digit bs ≡ true → i < length bs → x ≡ get_or bs i x → (48 ≤ x) × (x ≤ 57)
digit_at bs i x all h is = in_range 48 57 x (rw is (All-get_or (λ c. is_ascii_digit c ≡ true) bs i x h (AllPass-from_list_all is_ascii_digit bs all)))

pub kept : (rest x more whole : ℕ) → (rest + (x + more)) % 10 ≡ whole → ((rest + x) % 10 + more) % 10 ≡ whole
kept rest x more whole h = mod-add-mod (rest + x) 10 more ∙ ap (λ n. n % 10) (add_assoc rest x more) ∙ h

pub whole : (bs : List ℕ) → flagged false (reverse (take (length bs) bs)) ≡ luhn_sum (reverse bs)
whole bs = ap (λ xs. flagged false (reverse xs)) (take_all (length bs) bs (omega arith)) ∙ flagged_is (reverse bs)

pub none_left : (second : Bool) (bs : List ℕ) (left rest n : ℕ) → left ≡ 0 → rest < 10
    → (rest + flagged second (reverse (take left bs))) % 10 ≡ n → rest ≡ n
none_left second bs left rest n none small h = sym (mod-eq_of_lt small) ∙ ap (λ k. k % 10) (sym (add-zero rest)) ∙ rw none at h
