-- The turns that a request takes to a failure, and which lists of turns shadow which.
use Rattle.std.specs.Prelude.{◌≡◌, ◌<◌, ℕ, List, [], ◌∷◌, ◌++◌}
use mathlib.Core.Logic.{◌⊎◌}
use Rattle.fv_extract.specs.Places.{FieldPlace}
use Rattle.fv_extract.specs.Parts.{Locus}

-- where in an object something fails: on the object itself, or at a place and a locus
pub data Spot : Type 0 where
  of_object : Spot
  at : (place : FieldPlace) → (locus : Locus) → Spot

-- what fails in an object: a node of an occurrence, and where
pub record LocalFailure : Type 0 where
  pub spot : Spot
  pub node : ℕ

-- a reference that an object holds: its place, its locus, and the object that it names
pub record Way : Type 0 where
  pub place : FieldPlace
  pub locus : Locus
  pub target : ℕ

-- the turns that are free: a group is asked for, a reference is followed, constraints of a group are taken up, one of them fails
pub data FreeTurn : Type 0 where
  Ask : (group : ℕ) → FreeTurn
  Step : (way : Way) → FreeTurn
  Group : (group : ℕ) → FreeTurn
  Fail : (failure : LocalFailure) → FreeTurn

-- a turn is free, or ranked: a position in a list of ranks
pub data Turn (A : Type 0) : Type 0 where
  Free : A → Turn A
  Rank : ℕ → Turn A

-- turns one after the other
abbrev pub Turns : Type 0
Turns = List (Turn FreeTurn)

-- one list shadows the other: they agree on some number of turns, the next turn of both is a rank, and that of the one is the smaller
abbrev pub Shadows : {A : Type 0} → List (Turn A) → List (Turn A) → Type 0
Shadows {A} one other =
    (common : List (Turn A)) × (i : ℕ) × (j : ℕ) × (rest : List (Turn A)) × (other_rest : List (Turn A))
    × (i < j) × (one ≡ common ++ (Rank i ∷ rest)) × (other ≡ common ++ (Rank j ∷ other_rest))

-- both are ranks, the first smaller
abbrev pub IsSmallerRank : {A : Type 0} → Turn A → Turn A → Type 0
IsSmallerRank (Rank i) (Rank j) = i < j
IsSmallerRank (Rank i) (Free a) = ⊥
IsSmallerRank (Free a) turn = ⊥

-- the same as `Shadows`, turn by turn
abbrev pub ShadowsByRecursion : {A : Type 0} → List (Turn A) → List (Turn A) → Type 0
ShadowsByRecursion [] other = ⊥
ShadowsByRecursion (x ∷ xs) [] = ⊥
ShadowsByRecursion (x ∷ xs) (y ∷ ys) = IsSmallerRank x y ⊎ ((x ≡ y) × ShadowsByRecursion xs ys)
