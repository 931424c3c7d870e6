-- Membership by recursion, and lists without repeats.
use Rattle.std.proofs.Common.{◌≡◌, List, [], ◌∷◌, map, ◌⊎◌, inl, inr, refl}
use Rattle.fv_graph.specs.Graph.{IsIn, AllDiffer}
use Rattle.fv_walk_traces.specs.OneObject.{or_else, if_none}

pub map_none : {X Y : Type 0} (f : X → Y) (xs : List X) → map f xs ≡ [] → xs ≡ []
map_none f [] e = refl
map_none f (x ∷ xs) e = cc

pub none_map : {X Y : Type 0} (f : X → Y) (xs : List X) → xs ≡ [] → map f xs ≡ []
none_map f [] e = refl
none_map f (x ∷ xs) e = cc

pub none_or_some : {X : Type 0} (xs : List X) → (xs ≡ []) ⊎ ((x : X) × IsIn xs x)
none_or_some [] = inl refl
none_or_some (x ∷ xs) = inr (x, inl refl)

pub or_else_left : {X : Type 0} (xs ys : List X) (x : X) → IsIn xs x → IsIn (or_else xs ys) x
or_else_left [] ys x h = absurd h
or_else_left (y ∷ xs) ys x h = h

pub or_else_right : {X : Type 0} (xs ys : List X) (x : X) → xs ≡ [] → IsIn ys x → IsIn (or_else xs ys) x
or_else_right [] ys x e h = h
or_else_right (y ∷ xs) ys x e h = cc

pub or_else_cases : {X : Type 0} (xs ys : List X) (x : X) → IsIn (or_else xs ys) x → IsIn xs x ⊎ ((xs ≡ []) × IsIn ys x)
or_else_cases [] ys x h = inr (refl, h)
or_else_cases (y ∷ xs) ys x h = inl h

pub or_else_some : {X : Type 0} (xs ys : List X) (y : X) → IsIn ys y → (x : X) × IsIn (or_else xs ys) x
or_else_some [] ys y h = (y, h)
or_else_some (x ∷ xs) ys y h = (x, inl refl)

pub in_if_none : {X Y : Type 0} (xs : List X) (ys : List Y) (y : Y) → xs ≡ [] → IsIn ys y → IsIn (if_none xs ys) y
in_if_none [] ys y e h = h
in_if_none (x ∷ xs) ys y e h = cc

pub from_if_none : {X Y : Type 0} (xs : List X) (ys : List Y) (y : Y) → IsIn (if_none xs ys) y → (xs ≡ []) × IsIn ys y
from_if_none [] ys y h = (refl, h)
from_if_none (x ∷ xs) ys y h = absurd h

pub AllDiffer-or_else : {X : Type 0} (xs ys : List X) → AllDiffer xs → AllDiffer ys → AllDiffer (or_else xs ys)
AllDiffer-or_else [] ys d e = e
AllDiffer-or_else (x ∷ xs) ys d e = d

pub AllDiffer-if_none : {X Y : Type 0} (xs : List X) (ys : List Y) → AllDiffer ys → AllDiffer (if_none xs ys)
AllDiffer-if_none [] ys e = e
AllDiffer-if_none (x ∷ xs) ys e = tt
