-- What a loop has read, and what is still read.
use Rattle.std.proofs.Common.{◌≡◌, ℕ, ◌+◌, ◌<◌, List, [], ◌∷◌, ◌++◌, length, get_or, drop, Option, Some, None, option_map, refl, ap, append_assoc, add-one, drop-cons}
use Rattle.serde_json.specs.Data as json
use Rattle.serde_json.specs.View.{view as json_view, items_view}
use Rattle.serde_json.specs.declared.value.Value.{Value}
use Rattle.fv_datum.specs.Members.{listed, each_some}

abbrev pub with_front : {X : Type 0} → List X → Option (List X) → Option (List X)
with_front front o = option_map (λ more. front ++ more) o

regroup : {X : Type 0} (front : List X) (y : X) (rest : Option (List X)) → with_front front (option_map (λ ys. y ∷ ys) rest) ≡ with_front (front ++ y ∷ []) rest
regroup front y None = refl
regroup front y (Some ys) = ap (λ zs. Some zs) (simp append_assoc)

pub front_more : {X Y : Type 0} (f : X → Option Y) (front : List Y) (x : X) (xs : List X) (y : Y) → f x ≡ Some y → with_front front (each_some f (x ∷ xs)) ≡ with_front (front ++ y ∷ []) (each_some f xs)
front_more f front x xs y e = rw e (regroup front y (each_some f xs))

pub front_none : {X Y : Type 0} (f : X → Option Y) (front : List Y) (x : X) (xs : List X) → f x ≡ None → with_front front (each_some f (x ∷ xs)) ≡ None
front_none f front x xs e = rw e refl

pub listed_turn : (vs : List Value) (i : ℕ) (v : Value) → i < length vs → v ≡ get_or vs i v → listed (items_view (drop i vs)) ≡ json_view v ∷ listed (items_view (drop (i + 1) vs))
listed_turn vs i v h is = rw (add-one, drop-cons vs i v h, ← is) refl

-- the same over the values of an array
pub item_more : {Y : Type 0} (f : json.Data → Option Y) (front : List Y) (vs : List Value) (i : ℕ) (v : Value) (y : Y) → i < length vs → v ≡ get_or vs i v → f (json_view v) ≡ Some y
    → with_front front (each_some f (listed (items_view (drop i vs)))) ≡ with_front (front ++ y ∷ []) (each_some f (listed (items_view (drop (i + 1) vs))))
item_more f front vs i v y h is e = rw (listed_turn vs i v h is) (front_more f front (json_view v) (listed (items_view (drop (i + 1) vs))) y e)

pub item_none : {Y : Type 0} (f : json.Data → Option Y) (front : List Y) (vs : List Value) (i : ℕ) (v : Value) → i < length vs → v ≡ get_or vs i v → f (json_view v) ≡ None
    → with_front front (each_some f (listed (items_view (drop i vs)))) ≡ None
item_none f front vs i v h is e = rw (listed_turn vs i v h is) (front_none f front (json_view v) (listed (items_view (drop (i + 1) vs))) e)
