-- The first element that passes a test.
use Rattle.std.proofs.Common.{◌≡◌, ◌+◌, ℕ, zero, suc, drop, slice_get, List, [], ◌∷◌, Bool, true, false, ◌||◌, if◌then◌else◌, Option, Some, None, is_some, cond, option_map, refl, sym, ap, ◌∙◌, add-one}
use Rattle.std.specs.List.{list_any, find}
use Rattle.fv_first.specs.First.{first_from}

found_any : {X : Type 0} (b : Bool) (x : X) (o : Option X) (rest : Bool) → is_some o ≡ rest → is_some (cond b (Some x) o) ≡ (b || rest)
found_any true x o rest e = refl
found_any false x o rest e = e

-- there is one exactly where some element passes
pub is_some-find : {X : Type 0} (test : X → Bool) (xs : List X) → is_some (find test xs) ≡ list_any test xs
is_some-find test [] = refl
is_some-find test (x ∷ xs) = found_any (test x) x (find test xs) (list_any test xs) (is_some-find test xs)

passes : {X : Type 0} (test : X → Bool) (b : Bool) (x y : X) (o : Option X) → test x ≡ b → (o ≡ Some y → test y ≡ true) → cond b (Some x) o ≡ Some y → test y ≡ true
passes test true x y o is more found = let same : x ≡ y = cc in rw (← same) is
passes test false x y o is more found = more found

-- it passes
pub find-passes : {X : Type 0} (test : X → Bool) (xs : List X) (y : X) → find test xs ≡ Some y → test y ≡ true
find-passes test [] y found = cc
find-passes test (x ∷ xs) y found = passes test (test x) x y (find test xs) refl (find-passes test xs y) found

-- ---- an element that is looked at

-- a test that it doesn't pass has what it has of the others
pub any_past : {X : Type 0} (test : X → Bool) (x : X) (xs ys : List X) (b : Bool) → ys ≡ x ∷ xs → test x ≡ false → list_any test ys ≡ b → list_any test xs ≡ b
any_past test x xs ys b is fails all = let more : list_any test (x ∷ xs) ≡ b = ap (list_any test) (sym is) ∙ all in rw fails at more

module _ {X : Type 0} where
  -- the first of those that are left stands at their place
  pub at_front : (xs : List X) (i : ℕ) (x : X) (ys : List X) → drop i xs ≡ x ∷ ys → slice_get xs i ≡ Some x
  at_front [] zero x ys e = cc
  at_front [] (suc i) x ys e = cc
  at_front (y ∷ xs) zero x ys e = let same : y ≡ x = cc in ap (λ z. Some z) same
  at_front (y ∷ xs) (suc i) x ys e = at_front xs i x ys e

  rest_behind : (xs : List X) (i : ℕ) (x : X) (ys : List X) → drop i xs ≡ x ∷ ys → drop (suc i) xs ≡ ys
  rest_behind [] zero x ys e = cc
  rest_behind [] (suc i) x ys e = cc
  rest_behind (y ∷ xs) zero x ys e = cc
  rest_behind (y ∷ xs) (suc i) x ys e = rest_behind xs i x ys e

  -- the others are left behind it
  pub drop_more : (xs : List X) (i : ℕ) (x : X) (ys : List X) → drop i xs ≡ x ∷ ys → drop (i + 1) xs ≡ ys
  drop_more xs i x ys e = rw add-one (rest_behind xs i x ys e)

-- ---- as it is seen

pub seen_some : {X Y : Type 0} (view : X → Y) (r : Option X) → is_some (option_map view r) ≡ is_some r
seen_some view None = refl
seen_some view (Some x) = refl

-- there is one, as it is seen, exactly where some element passes
pub told_of : {X Y : Type 0} (view : X → Y) (test : Y → Bool) (xs ys : List Y) (r : Option X) → xs ≡ ys → option_map view r ≡ find test ys → is_some r ≡ list_any test xs
told_of view test xs ys r same found = sym (seen_some view r) ∙ ap is_some found ∙ is_some-find test ys ∙ ap (list_any test) (sym same)

-- the first that is left is found where it passes
pub find_here : {X : Type 0} (test : X → Bool) (x : X) (xs ys : List X) (o : Option X) → ys ≡ x ∷ xs → test x ≡ true → find test ys ≡ o → o ≡ Some x
find_here test x xs ys o is passes found = let here : find test (x ∷ xs) ≡ o = ap (find test) (sym is) ∙ found in sym (rw passes at here)

-- ---- the number of the first element that passes

-- it is that of the first that is left, where that passes
pub where_here : {X : Type 0} (test : X → Bool) (i : ℕ) (x : X) (xs ys : List X) (o : Option ℕ) → ys ≡ x ∷ xs → test x ≡ true
    → first_from (λ n x. if test x then Some n else None) i ys ≡ o → o ≡ Some i
where_here test i x xs ys o is passes found =
    let here : first_from (λ n x. if test x then Some n else None) i (x ∷ xs) ≡ o = ap (first_from (λ n x. if test x then Some n else None) i) (sym is) ∙ found in
    sym (rw passes at here)

-- and else one of the others
pub where_past : {X : Type 0} (test : X → Bool) (i : ℕ) (x : X) (xs ys : List X) (o : Option ℕ) → ys ≡ x ∷ xs → test x ≡ false
    → first_from (λ n x. if test x then Some n else None) i ys ≡ o → first_from (λ n x. if test x then Some n else None) (i + 1) xs ≡ o
where_past test i x xs ys o is fails found =
    let here : first_from (λ n x. if test x then Some n else None) i (x ∷ xs) ≡ o = ap (first_from (λ n x. if test x then Some n else None) i) (sym is) ∙ found in
    rw add-one (rw fails at here)
