-- What is read of what passes a test.
use Rattle.std.proofs.Common.{◌≡◌, ℕ, List, [], ◌∷◌, length, Bool, true, false, ◌&&◌, ◌||◌, if◌then◌else◌, Option, Some, None, option_map, option_and_then, is_some, refl, sym, ap, ◌∙◌}
use Rattle.std.specs.List.{list_all}
use Rattle.std.specs.Option.{option_map_or}
use Rattle.fv_datum.specs.Forms.{map2, map3, map4}
use Rattle.fv_datum.specs.Json.{passing}
use Rattle.fv_datum.specs.Members.{each_some}
use Rattle.fv_form.proofs.Told.{map_read}

pub and_false : (b : Bool) → (b && false) ≡ false
and_false true = refl
and_false false = refl

pub or_false : (b : Bool) → (b || false) ≡ b
or_false true = refl
or_false false = refl

pub and_turned : (a b : Bool) → (a && b) ≡ (b && a)
and_turned true true = refl
and_turned true false = refl
and_turned false true = refl
and_turned false false = refl

pub if_read : {X : Type 0} (b : Bool) (x : X) → is_some (if b then Some x else None) ≡ b
if_read true x = refl
if_read false x = refl

-- nothing, whichever way
pub nothing : (X : Type 0) (b : Bool) (o : Option X) → o ≡ None → is_some (if b then o else None) ≡ false
nothing X true o is = ap is_some is
nothing X false o is = refl

pub any_read : {X : Type 0} (o : Option X) → is_some (option_and_then (λ x. Some x) o) ≡ is_some o
any_read None = refl
any_read (Some x) = refl

pub all_read : {X : Type 0} (xs : List X) → is_some (each_some (λ x. Some x) xs) ≡ true
all_read [] = refl
all_read (x ∷ xs) = map_read (λ ys. x ∷ ys) (each_some (λ x. Some x) xs) ∙ all_read xs

module _ {X : Type 0} (t : X → Bool) where
  pub passed : (o : Option X) → is_some (option_and_then (passing t) o) ≡ option_map_or t o false
  passed None = refl
  passed (Some x) = if_read (t x) x

  pub passed_where : (b : Bool) (o : Option X) → option_map_or t (if b then o else None) false ≡ (b && option_map_or t o false)
  passed_where true o = refl
  passed_where false o = refl

  pub passed_at : {Y : Type 0} (f : Y → Option X) (o : Option Y) → is_some (option_and_then (λ y. option_and_then (passing t) (f y)) o) ≡ option_map_or t (option_and_then f o) false
  passed_at f None = refl
  passed_at f (Some y) = passed (f y)

  -- where all that is made passes
  pub passed1 : {A : Type 0} (f : A → X) → ((a : A) → t (f a) ≡ true) → (a : Option A) → option_map_or t (option_map f a) false ≡ is_some a
  passed1 f each None = refl
  passed1 f each (Some a) = each a

  pub passed2 : {A B : Type 0} (f : A → B → X) → ((a : A) (b : B) → t (f a b) ≡ true) → (a : Option A) (b : Option B) → option_map_or t (map2 f a b) false ≡ (is_some a && is_some b)
  passed2 f each None b = refl
  passed2 f each (Some a) b = passed1 (f a) (each a) b

  pub passed3 : {A B C : Type 0} (f : A → B → C → X) → ((a : A) (b : B) (c : C) → t (f a b c) ≡ true) → (a : Option A) (b : Option B) (c : Option C)
      → option_map_or t (map3 f a b c) false ≡ (is_some a && (is_some b && is_some c))
  passed3 f each None b c = refl
  passed3 f each (Some a) b c = passed2 (f a) (each a) b c

  pub passed4 : {A B C D : Type 0} (f : A → B → C → D → X) → ((a : A) (b : B) (c : C) (d : D) → t (f a b c d) ≡ true) → (a : Option A) (b : Option B) (c : Option C) (d : Option D)
      → option_map_or t (map4 f a b c d) false ≡ (is_some a && (is_some b && (is_some c && is_some d)))
  passed4 f each None b c d = refl
  passed4 f each (Some a) b c d = passed3 (f a) (each a) b c d

  -- what passes two tests, in either order
  both_passed : (u : X → Bool) (x : X) (b : Bool) → is_some (option_and_then (passing u) (if b then Some x else None)) ≡ (b && u x)
  both_passed u x true = if_read (u x) x
  both_passed u x false = refl

  pub passed_both : (u : X → Bool) (o : Option X) → is_some (option_and_then (passing u) (option_and_then (passing t) o)) ≡ option_map_or t (option_and_then (passing u) o) false
  passed_both u None = refl
  passed_both u (Some x) = both_passed u x (t x) ∙ and_turned (t x) (u x) ∙ sym (passed_where (u x) (Some x))

  pair_passed : (a b : Bool) (x : X) (xs : List X) → option_and_then (λ y. option_map (λ ys. y ∷ ys) (if b then Some xs else None)) (if a then Some x else None) ≡ (if a && b then Some (x ∷ xs) else None)
  pair_passed true true x xs = refl
  pair_passed true false x xs = refl
  pair_passed false b x xs = refl

  none_passed : (a : Bool) (x : X) → option_and_then (λ y. option_map (λ ys. y ∷ ys) None) (if a then Some x else None) ≡ None
  none_passed true x = refl
  none_passed false x = refl

  front_passed : (o : Option X) (os : Option (List X))
      → option_and_then (λ y. option_map (λ ys. y ∷ ys) (option_and_then (passing (list_all t)) os)) (option_and_then (passing t) o)
      ≡ option_and_then (passing (list_all t)) (option_and_then (λ y. option_map (λ ys. y ∷ ys) os) o)
  front_passed None os = refl
  front_passed (Some x) None = none_passed (t x) x
  front_passed (Some x) (Some xs) = pair_passed (t x) (list_all t xs) x xs

  -- each passes exactly where all do
  pub each_passed : {Y : Type 0} (f : Y → Option X) (ys : List Y) → each_some (λ y. option_and_then (passing t) (f y)) ys ≡ option_and_then (passing (list_all t)) (each_some f ys)
  each_passed f [] = refl
  each_passed f (y ∷ ys) =
      ap (λ os. option_and_then (λ x. option_map (λ xs. x ∷ xs) os) (option_and_then (passing t) (f y))) (each_passed f ys) ∙ front_passed (f y) (each_some f ys)

-- so many are read where there are so many
pub sized : {X : Type 0} (test : ℕ → Bool) (n : ℕ) (o : Option (List X)) → ((xs : List X) → o ≡ Some xs → length xs ≡ n)
    → is_some (option_and_then (passing (λ xs. test (length xs))) o) ≡ (test n && is_some o)
sized test n None sizes = sym (and_false (test n))
sized test n (Some xs) sizes = if_read (test (length xs)) xs ∙ ap test (sizes xs refl) ∙ sym (and_turned (test n) true)
