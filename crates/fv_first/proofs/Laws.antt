-- What is found first is there exactly where some element has it.
use Rattle.std.proofs.Common.{◌≡◌, inr, ℕ, suc, ◌+◌, ◌<◌, List, [], ◌∷◌, length, get_or, drop, map, Bool, true, false, ◌||◌, if◌then◌else◌, Option, Some, None, option_map, is_some, refl, ap₂, ◌∙◌, add-one, drop-cons}
use Rattle.std.specs.List.{list_any}
use Rattle.std.specs.Option.{option_or}
use Rattle.fv_first.specs.First.{first_from, first_where, IsFirstFrom}

pub or_told : {P : Type 0} (a b : Option P) → is_some (option_or a b) ≡ (is_some a || is_some b)
or_told None b = refl
or_told (Some p) b = refl

pub or_none : {P : Type 0} (a : Option P) → is_some (option_or a None) ≡ is_some a
or_none None = refl
or_none (Some p) = refl

pub map_told : {P Q : Type 0} (g : P → Q) (o : Option P) → is_some (option_map g o) ≡ is_some o
map_told g None = refl
map_told g (Some p) = refl

pub when_told : {P : Type 0} (b : Bool) (p : P) → is_some (if b then Some p else None) ≡ b
when_told true p = refl
when_told false p = refl

pub first_told : {X P : Type 0} (f : ℕ → X → Option P) (t : X → Bool) → ((n : ℕ) (x : X) → is_some (f n x) ≡ t x) → (n : ℕ) (xs : List X) → is_some (first_from f n xs) ≡ list_any t xs
first_told f t each n [] = refl
first_told f t each n (x ∷ xs) = or_told (f n x) (first_from f (suc n) xs) ∙ ap₂ (λ a b. a || b) (each n x) (first_told f t each (suc n) xs)

pub where_told : {X : Type 0} (t : X → Bool) (xs : List X) → is_some (first_where t xs) ≡ list_any t xs
where_told t xs = first_told (λ n x. if t x then Some n else None) t (λ n x. when_told (t x) n) 0 xs

-- of each element, what a test finds first in a list of it
pub inner_told : {X Y P : Type 0} (at : ℕ → ℕ → P) (t : X → Y → Bool) (of : X → List Y) (xs : List X)
    → is_some (first_from (λ n x. option_map (at n) (first_where (t x) (of x))) 0 xs) ≡ list_any (λ x. list_any (t x) (of x)) xs
inner_told at t of xs = first_told _ (λ x. list_any (t x) (of x)) (λ n x. map_told (at n) (first_where (t x) (of x)) ∙ where_told (t x) (of x)) 0 xs

-- one element further on, where nothing is found of this one
pub past : {X Y P : Type 0} (view : X → Y) (F : ℕ → Y → Option P → Type 0) (xs : List X) (i : ℕ) (x : X) → i < length xs → x ≡ get_or xs i x → F i (view x) None
    → (found : Option P) → IsFirstFrom F (i + 1) (map view (drop (i + 1) xs)) found → IsFirstFrom F i (map view (drop i xs)) found
past view F xs i x h is none found rest = let more = rw add-one at rest in rw (drop-cons xs i x h, ← is) (inr (none, more))
