-- Items that are the same in front.
use Rattle.std.proofs.Common.{◌≡◌, ℕ, suc, ◌+◌, ◌-◌, ◌<◌, List, [], ◌∷◌, true, false, if◌then◌else◌, length, get_or, map, drop, min, refl, sym, ◌∙◌, arith, add-one, drop-cons, length-drop, reverse, zero-add}
use Rattle.std.proofs.lemmas.List.{length-map, length-reverse, get_or-reverse}
use mathlib.Core.List.{reverse_aux}
use Rattle.serde_json.specs.Data.{Data}
use Rattle.serde_json.specs.View.{view}
use Rattle.serde_json.specs.declared.value.Value.{Value}
use Rattle.fv_explain_over.specs.Changes.{same_front}
use Rattle.fv_explain_over.specs.Same.{same}

-- how many are the same in front from an index on
abbrev pub front_from : List Value → List Value → ℕ → ℕ
front_from vs ws i = same_front (map view (drop i vs)) (map view (drop i ws))

module _ (vs ws : List Value) (i : ℕ) (v w : Value) (before : i < length vs) (also_before : i < length ws) (at : v ≡ get_or vs i v) (also_at : w ≡ get_or ws i w) where
  turn : front_from vs ws i ≡ (if same (view v) (view w) then suc (front_from vs ws (i + 1)) else 0)
  turn = rw (add-one, drop-cons vs i v before, drop-cons ws i w also_before, ← at, ← also_at) refl

  -- they end at others
  pub front_stops : (all : ℕ) → same (view v) (view w) ≡ false → i + front_from vs ws i ≡ all → i ≡ all
  front_stops all other so_far =
      let none : front_from vs ws i ≡ 0 = rw (turn, other) refl in
      omega (arith, none, so_far)

  -- they go on at the same
  pub front_goes_on : (all : ℕ) → same (view v) (view w) ≡ true → i + front_from vs ws i ≡ all → (i + 1) + front_from vs ws (i + 1) ≡ all
  front_goes_on all alike so_far =
      let next : front_from vs ws i ≡ suc (front_from vs ws (i + 1)) = rw (turn, alike) refl in
      omega (arith, next, so_far)

none_left : (ds es : List Data) → min (length ds) (length es) ≡ 0 → same_front ds es ≡ 0
none_left [] es h = refl
none_left (d ∷ ds) [] h = refl
none_left (d ∷ ds) (e ∷ es) h = absurd (omega (arith, h))

-- they end where one of the arrays does
pub front_ends : (vs ws : List Value) (i all : ℕ) → i ≡ min (length vs) (length ws) → i + front_from vs ws i ≡ all → i ≡ all
front_ends vs ws i all end so_far =
    let old : length (map view (drop i vs)) ≡ length vs - i = length-map (drop i vs) view ∙ length-drop i vs in
    let new : length (map view (drop i ws)) ≡ length ws - i = length-map (drop i ws) view ∙ length-drop i ws in
    let none : front_from vs ws i ≡ 0 = none_left (map view (drop i vs)) (map view (drop i ws)) (omega (arith, old, new, end)) in
    omega (arith, none, so_far)

-- ---- the same from the end on

abbrev pub back_from : List Value → List Value → ℕ → ℕ
back_from vs ws = front_from (reverse vs) (reverse ws)

seen_onto : (vs done : List Value) → map view (reverse_aux vs done) ≡ reverse_aux (map view vs) (map view done)
seen_onto [] done = refl
seen_onto (v ∷ vs) done = seen_onto vs (v ∷ done)

seen_reversed : (vs : List Value) → map view (reverse vs) ≡ reverse (map view vs)
seen_reversed vs = seen_onto vs []

-- at the start there are all
pub back_starts : (vs ws : List Value) → 0 + back_from vs ws 0 ≡ same_front (reverse (map view vs)) (reverse (map view ws))
back_starts vs ws = zero-add _ ∙ rw (seen_reversed vs, seen_reversed ws) refl

-- what stands at an index from the end
pub from_end : (vs : List Value) (i : ℕ) (v : Value) → i < length vs → v ≡ get_or vs (length vs - 1 - i) v → v ≡ get_or (reverse vs) i v
from_end vs i v before at = at ∙ sym (get_or-reverse vs i v before)

pub within_reversed : (vs : List Value) (i : ℕ) → i < length vs → i < length (reverse vs)
within_reversed vs i before = rw (length-reverse vs) before
