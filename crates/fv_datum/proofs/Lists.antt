-- What holds of each element of a list, and what is read of each.
use Rattle.std.proofs.Common.{◌≡◌, ℕ, zero, suc, ◌+◌, ◌<◌, List, [], ◌∷◌, map, length, get_or, drop, Bool, false, ◌||◌, Option, Some, None, option_map, option_and_then, slice_get, refl, sym, ap, subst, ◌∙◌, add-one, drop-cons}
use Rattle.std.specs.List.{list_any, AllByRecursion}
use Rattle.fv_datum.specs.Members.{each_some}
use Rattle.fv_datum.proofs.Bools.{or_false, or_left, or_right}

-- none has what a test finds
pub none_each : {X : Type 0} (t : X → Bool) (xs : List X) → list_any t xs ≡ false → AllByRecursion (λ x. t x ≡ false) xs
none_each t [] none = tt
none_each t (x ∷ xs) none = (or_left (t x) (list_any t xs) none, none_each t xs (or_right (t x) (list_any t xs) none))

pub both_each : {X : Type 0} (P Q : X → Type 0) (xs : List X) → AllByRecursion P xs → AllByRecursion Q xs → AllByRecursion (λ x. P x × Q x) xs
both_each P Q [] p q = tt
both_each P Q (x ∷ xs) p q = ((p.0, q.0), both_each P Q xs p.1 q.1)

pub each_of : {X : Type 0} (P Q : X → Type 0) (xs : List X) → ((x : X) → P x → Q x) → AllByRecursion P xs → AllByRecursion Q xs
each_of P Q [] turn all = tt
each_of P Q (x ∷ xs) turn all = (turn x all.0, each_of P Q xs turn all.1)

-- where each is as said, a test finds none among what is made of them
pub none_made : {X Y : Type 0} (t : Y → Bool) (f : X → Y) (P : X → Type 0) (xs : List X) → ((x : X) → P x → t (f x) ≡ false) → AllByRecursion P xs → list_any t (map f xs) ≡ false
none_made t f P [] each all = refl
none_made t f P (x ∷ xs) each all = or_false (t (f x)) _ (each x all.0) (none_made t f P xs each all.1)

pub both_some : {X : Type 0} (o : Option X) (rest : Option (List X)) (xs : List X) → option_and_then (λ y. option_map (λ ys. y ∷ ys) rest) o ≡ Some xs → (x : X) × (ys : List X) × (o ≡ Some x) × (rest ≡ Some ys) × (x ∷ ys ≡ xs)
both_some (Some x) (Some ys) xs e = (x, ys, refl, refl, cc)
both_some (Some x) None xs e = cc
both_some None rest xs e = cc

-- what holds of what each is read as
pub each_read : {X Y : Type 0} (f : X → Option Y) (Ok : X → Type 0) (W P : Y → Type 0) → ((x : X) (y : Y) → f x ≡ Some y → W y → Ok x → P y) → (xs : List X) (ys : List Y) → each_some f xs ≡ Some ys → AllByRecursion W ys → AllByRecursion Ok xs → AllByRecursion P ys
each_read f Ok W P turn [] [] is written ok = tt
each_read f Ok W P turn [] (y ∷ ys) is written ok = cc
each_read f Ok W P turn (x ∷ xs) [] is written ok = let found = both_some (f x) (each_some f xs) [] is in cc
each_read f Ok W P turn (x ∷ xs) (y ∷ ys) is written ok =
    let found = both_some (f x) (each_some f xs) (y ∷ ys) is in
    let here : found.0 ≡ y = cc in
    let more : found.1 ≡ ys = cc in
    (turn x y (found.2 ∙ ap (λ z. Some z) here) written.0 ok.0, each_read f Ok W P turn xs ys (found.3 ∙ ap (λ zs. Some zs) more) written.1 ok.1)

-- as many are read
pub length_read : {X Y : Type 0} (f : X → Option Y) (xs : List X) (ys : List Y) → each_some f xs ≡ Some ys → length ys ≡ length xs
length_read f [] ys is = let same : [] ≡ ys = cc in ap (λ zs. length zs) (sym same)
length_read f (x ∷ xs) ys is =
    let found = both_some (f x) (each_some f xs) ys is in
    ap (λ zs. length zs) (sym found.4) ∙ ap suc (length_read f xs found.1 found.3)

-- what each was made of is read of it
pub read_made : {X Y : Type 0} (f : Y → Option X) (g : X → Y) (P : X → Type 0) (xs : List X) → ((x : X) → P x → f (g x) ≡ Some x) → AllByRecursion P xs → each_some f (map g xs) ≡ Some xs
read_made f g P [] back all = refl
read_made f g P (x ∷ xs) back all = rw (back x all.0, read_made f g P xs back all.1) refl

pub map_get : {X Y : Type 0} (f : X → Y) (xs : List X) (i : ℕ) (y : Y) → slice_get (map f xs) i ≡ Some y → (x : X) × (slice_get xs i ≡ Some x) × (y ≡ f x)
map_get f [] i y e = cc
map_get f (x ∷ xs) zero y e = (x, refl, cc)
map_get f (x ∷ xs) (suc i) y e = map_get f xs i y e

pub all_get : {X : Type 0} (P : X → Type 0) (xs : List X) (i : ℕ) (x : X) → AllByRecursion P xs → slice_get xs i ≡ Some x → P x
all_get P [] i x all e = cc
all_get P (y ∷ ys) zero x all e = let same : y ≡ x = cc in subst P same all.0
all_get P (y ∷ ys) (suc i) x all e = all_get P ys i x all.1 e

-- whether some element passes a test, seen from one of them on
pub any_turn : {X Y : Type 0} (view : X → Y) (test : Y → Bool) (xs : List X) (i : ℕ) (x : X) → i < length xs → x ≡ get_or xs i x
    → list_any test (map view (drop i xs)) ≡ (test (view x) || list_any test (map view (drop (i + 1) xs)))
any_turn view test xs i x h is = rw (add-one, drop-cons xs i x h, ← is) refl
