-- The UTF-16 code units of characters.
use Rattle.std.proofs.Common.{◌≡◌, ℕ, ◌*◌, ◌≤◌, List, [], ◌∷◌, length, cond, nat_lt, Bool, true, false, arith, map, refl, ◌∙◌, sym, ap}
use Rattle.std.specs.List.{sum_by}
use Rattle.std.specs.Str.{chars, IsUtf8}
use Rattle.std.proofs.lemmas.List.Sums.{sum_by-cons}
use Rattle.std.proofs.lemmas.Str.{length-le-encodes, encodes-chars}
use Rattle.fv_builtin.specs.Sizes.{units_of}

at_most_two : (b : Bool) → cond b 1 2 ≤ 2
at_most_two true = omega arith
at_most_two false = omega arith

pub unit-few : (c : ℕ) → units_of c ≤ 2
unit-few c = at_most_two (nat_lt c 65536)

-- a character has at most two
pub units-few : (cs : List ℕ) → sum_by units_of cs ≤ 2 * length cs
units-few [] = omega arith
units-few (c ∷ cs) =
    let here = unit-few c in
    let more = units-few cs in
    rw (sum_by-cons units_of c cs) (omega arith)

-- a text has no more characters than bytes
pub chars-few : (s : List ℕ) → IsUtf8 s → length (chars s) ≤ length s
chars-few s u = let few = length-le-encodes (chars s) in rw (encodes-chars s u) at few

map-same : (xs : List ℕ) → map (λ c. c) xs ≡ xs
map-same [] = refl
map-same (x ∷ xs) = ap (λ ys. x ∷ ys) (map-same xs)

pub same_units : (xs all : List ℕ) → map (λ c. c) xs ≡ all → sum_by units_of xs ≡ sum_by units_of all
same_units xs all e = ap (sum_by units_of) (sym (map-same xs) ∙ e)
