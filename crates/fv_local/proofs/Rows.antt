-- Rows of lists, as they grow, and the ranks of types.
use Rattle.std.proofs.Common.{◌≡◌, ◌<◌, ◌+◌, ℕ, zero, suc, List, [], ◌∷◌, ◌++◌, length, length-append, map, Option, Some, None, option_map, option_and_then, is_some, slice_get, refl, sym, ap, subst, ◌∙◌, arith}
use borrow.Author.Count.{below_more}
use Rattle.std.specs.List.{AllByRecursion, AllZip}
use Rattle.std.specs.Option.{IfSome}
use Rattle.std.proofs.lemmas.List.{map-append}
use Rattle.fv_declare_schema.specs.Ordered.{AreGroups}
use Rattle.fv_declare_schema.specs.Groups.{Groups}

-- ---- what stands in a row

at_end : {X : Type 0} (xs : List X) (x : X) (n : ℕ) → length xs ≡ n → slice_get (xs ++ x ∷ []) n ≡ Some x
at_end [] x zero e = refl
at_end [] x (suc n) e = cc
at_end (y ∷ xs) x zero e = absurd (omega arith)
at_end (y ∷ xs) x (suc n) e = at_end xs x n (omega arith)

before_end : {X : Type 0} (xs : List X) (x : X) (k : ℕ) → k < length xs → slice_get (xs ++ x ∷ []) k ≡ slice_get xs k
before_end [] x k less = absurd (omega arith)
before_end (y ∷ xs) x zero less = refl
before_end (y ∷ xs) x (suc k) less = before_end xs x k (omega arith)

-- what holds of each entry, and of one more
pub one_pushed : {X : Type 0} (P : ℕ → Option X → Type 0) (xs xs' : List X) (x : X) (n : ℕ) → xs' ≡ xs ++ x ∷ [] → length xs ≡ n → ((k : ℕ) → k < n → P k (slice_get xs k)) → P n (Some x) → (k : ℕ) → k < n + 1 → P k (slice_get xs' k)
one_pushed {X} P xs xs' x n is long each last =
    below_more (λ k. P k (slice_get xs' k)) n
    (λ k less. subst (P k) (sym (ap (λ (l : List X). slice_get l k) is ∙ before_end xs x k (omega (arith, long)))) (each k less))
    (subst (P n) (sym (ap (λ (l : List X). slice_get l n) is ∙ at_end xs x n long)) last)

pub one_longer : {X : Type 0} (xs xs' : List X) (x : X) (n : ℕ) → xs' ≡ xs ++ x ∷ [] → length xs ≡ n → length xs' ≡ n + 1
one_longer {X} xs xs' x n is long = ap (λ (l : List X). length l) is ∙ length-append xs (x ∷ []) ∙ omega (arith, long)

-- what a list with one more shows
pub one_shown : {X Y : Type 0} (view : X → Y) (xs xs' : List X) (x : X) → xs' ≡ xs ++ x ∷ [] → map view xs' ≡ map view xs ++ view x ∷ []
one_shown {X} view xs xs' x is = ap (λ (l : List X). map view l) is ∙ map-append view xs (x ∷ [])

pub one_zipped : {X Y : Type 0} (R : X → Y → Type 0) (xs : List X) (ys : List Y) (x : X) (y : Y) → AllZip R xs ys → R x y → AllZip R (xs ++ x ∷ []) (ys ++ y ∷ [])
one_zipped R [] [] x y all here = (here, tt)
one_zipped R [] (v ∷ ys) x y all here = absurd all
one_zipped R (u ∷ xs) [] x y all here = absurd all
one_zipped R (u ∷ xs) (v ∷ ys) x y all here = (all.0, one_zipped R xs ys x y all.1 here)

-- ---- the ranks of types

pub is_some_mapped : {X Y : Type 0} (f : X → Y) (o : Option X) (p : Option Y) → option_map f o ≡ p → is_some o ≡ is_some p
is_some_mapped f None p e = ap (λ q. is_some q) e
is_some_mapped f (Some x) p e = ap (λ q. is_some q) e

-- the ranks of a type are numbers of groups
pub ranks_within : (gs : Groups) (ss : List (Option (List ℕ))) (type : ℕ) (ranks : List ℕ) → AllByRecursion (λ s. IfSome s (AreGroups gs)) ss
    → option_and_then (λ rs. rs) (slice_get ss type) ≡ Some ranks → AreGroups gs ranks
ranks_within gs [] type ranks all e = cc
ranks_within gs (s ∷ ss) zero ranks all e = subst (λ (o : Option (List ℕ)). IfSome o (AreGroups gs)) e all.0
ranks_within gs (s ∷ ss) (suc type) ranks all e = ranks_within gs ss type ranks all.1 e
