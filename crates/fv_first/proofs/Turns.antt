-- What is found first, seen from one element on.
use Rattle.std.proofs.Common.{◌≡◌, ℕ, ◌+◌, ◌<◌, List, ◌∷◌, length, get_or, drop, map, Option, Bor, String, string_bytes, refl, add-one, drop-cons}
use Rattle.std.specs.declared.alloc.Global.{Global}
use Rattle.std.specs.Option.{option_or}
use Rattle.fv_first.specs.First.{first_from}

pub first_turn : {X Y P : Type 0} (view : X → Y) (f : ℕ → Y → Option P) (xs : List X) (i : ℕ) (x : X) → i < length xs → x ≡ get_or xs i x
    → first_from f i (map view (drop i xs)) ≡ option_or (f i (view x)) (first_from f (i + 1) (map view (drop (i + 1) xs)))
first_turn view f xs i x h is = rw (add-one, drop-cons xs i x h, ← is) refl

-- of texts that are owned
pub text_turn : {P : Type 0} (f : ℕ → List ℕ → Option P) (xs : List (String Global)) (i : ℕ) (x : String Global) → i < length xs → x ≡ get_or xs i x
    → first_from f i (map string_bytes (drop i xs)) ≡ option_or (f i (string_bytes x)) (first_from f (i + 1) (map string_bytes (drop (i + 1) xs)))
text_turn = first_turn string_bytes

-- of texts that are borrowed
pub name_turn : {P : Type 0} (f : ℕ → List ℕ → Option P) (xs : List (Bor (List ℕ))) (i : ℕ) (x : Bor (List ℕ)) → i < length xs → x ≡ get_or xs i x
    → first_from f i (map (λ n. n.now) (drop i xs)) ≡ option_or (f i x.now) (first_from f (i + 1) (map (λ n. n.now) (drop (i + 1) xs)))
name_turn = first_turn (λ (n : Bor (List ℕ)). n.now)

-- where an iterator gives an element
pub entry_turn : {X P : Type 0} (f : ℕ → X → Option P) (i : ℕ) (x : X) (xs : List X) → first_from f i (x ∷ xs) ≡ option_or (f i x) (first_from f (i + 1) xs)
entry_turn f i x xs = rw add-one refl

-- the same where numbers begin at 1
pub next_turn : {X P : Type 0} (f : ℕ → X → Option P) (i : ℕ) (x : X) (xs : List X)
    → first_from f (i + 1) (x ∷ xs) ≡ option_or (f (i + 1) x) (first_from f (i + 1 + 1) xs)
next_turn f i x xs = rw (add-one, add-one) refl
