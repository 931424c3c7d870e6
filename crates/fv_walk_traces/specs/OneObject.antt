-- What fails in one object, by its own constraints.
use Rattle.std.specs.Prelude.{◌≡◌, ℕ, List, [], ◌∷◌, ◌++◌, flat_map}
use Rattle.fv_walk_traces.specs.Turns.{LocalFailure, Fail, Free, Turns, Shadows}
use Rattle.fv_walk_traces.specs.Requests.{Own, Plain, InRanks, GraphRequest}
use Rattle.fv_walk_traces.specs.Traces.{IsEndIn}

-- a failure that ends turns by parts 3 and 4, among what fails in each of these groups, which no other such turns shadow
abbrev pub IsLocalIn : List ℕ → (ℕ → Own) → LocalFailure → Type 0
IsLocalIn hs own f =
    (r : Turns) × (before : Turns) × IsEndIn hs own r
    × ((other : Turns) → IsEndIn hs own other → Shadows other r → ⊥)
    × (r ≡ before ++ Free (Fail f) ∷ [])

-- a failure that ends turns by parts 3 and 4 at the object which no other such turns shadow
abbrev pub IsLocal : GraphRequest → ℕ → ℕ → LocalFailure → Type 0
IsLocal request object carried f = IsLocalIn (request.below carried) (request.own object) f

-- the first list, or the second where the first has nothing
abbrev pub or_else : {X : Type 0} → List X → List X → List X
or_else [] ys = ys
or_else (x ∷ xs) ys = x ∷ xs

-- what is left of the second list: nothing where the first has something
abbrev pub if_none : {X Y : Type 0} → List X → List Y → List Y
if_none [] ys = ys
if_none (x ∷ xs) ys = []

-- the first list that has something
abbrev pub first_some : {X : Type 0} → List (List X) → List X
first_some [] = []
first_some (xs ∷ lists) = or_else xs (first_some lists)

-- what is told of an object's constraints in one group: all that fails, and in ranks what fails in the first rank where something does
abbrev pub told_of_own : Own → List LocalFailure
told_of_own (Plain fails) = fails
told_of_own (InRanks lists) = first_some lists

-- what is told of what fails in each of these groups
abbrev pub told_in : List ℕ → (ℕ → Own) → List LocalFailure
told_in hs own = flat_map (λ h. told_of_own (own h)) hs

-- the failures of one object in the groups that the carried one stands for
abbrev pub local_failures : GraphRequest → ℕ → ℕ → List LocalFailure
local_failures request object carried = told_in (request.below carried) (request.own object)
