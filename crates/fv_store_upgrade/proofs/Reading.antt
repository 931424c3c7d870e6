-- Rows that are read one after another.
use Rattle.std.proofs.Common.{◌≡◌, List, [], ◌∷◌, ◌++◌, Option, Some, None, option_map, option_and_then, Ok, Err, refl}
use Rattle.std.specs.Option.{ok_or}
use Rattle.fv_datum.specs.Members.{each_some}
use Rattle.fv_datum.proofs.Fronts.{with_front, front_more}

pub ok_some : {X E : Type 0} (o : Option X) (e : E) (x : X) → ok_or o e ≡ Ok x → o ≡ Some x
ok_some None e x is = cc
ok_some (Some y) e x is = cc

pub err_none : {X E : Type 0} (o : Option X) (e f : E) → ok_or o e ≡ Err f → (o ≡ None) × (f ≡ e)
err_none None e f is = (refl, cc)
err_none (Some y) e f is = cc

pub front_ok : {X Y E : Type 0} (f : X → Option Y) (front : List Y) (x : X) (xs : List X) (y : Y) (e : E) → ok_or (f x) e ≡ Ok y → with_front front (each_some f (x ∷ xs)) ≡ with_front (front ++ y ∷ []) (each_some f xs)
front_ok f front x xs y e is = front_more f front x xs y (ok_some (f x) e y is)

-- what is read of a list is what is read of the first and of the rest
pub each_parts : {X Y : Type 0} (f : X → Option Y) (x : X) (xs : List X) (ys : List Y) → each_some f (x ∷ xs) ≡ Some ys
    → (y : Y) × (rest : List Y) × (f x ≡ Some y) × (each_some f xs ≡ Some rest) × (ys ≡ y ∷ rest)
each_parts {X} {Y} f x xs ys is = go (f x) refl (each_some f xs) refl is
  where
    go : (o : Option Y) → f x ≡ o → (r : Option (List Y)) → each_some f xs ≡ r → option_and_then (λ y. option_map (λ ys. y ∷ ys) r) o ≡ Some ys
        → (y : Y) × (rest : List Y) × (f x ≡ Some y) × (each_some f xs ≡ Some rest) × (ys ≡ y ∷ rest)
    go None first r later whole = absurd cc
    go (Some y) first None later whole = absurd cc
    go (Some y) first (Some rest) later whole = (y, rest, first, later, cc)
