-- What a list of spots becomes while a tree is listed.
use Rattle.std.specs.Prelude.{◌≡◌, ◌<◌, ℕ, zero, suc, ◌+◌, ◌-◌, ◌*◌, List, [], ◌∷◌, ◌++◌, Option, Some, None, slice_get, length, map, drop}
use Rattle.fv_graph.specs.Tree.{Hands, handed, tree_of, all_listed}
use Rattle.fv_graph.specs.declared.flatten.Spot.{Spot}
use Rattle.fv_graph.specs.declared.flatten.Branch.{Branch}

-- the spots, where that at a place counts all behind it
abbrev pub closed : {V : Type 0} → ℕ → List (Spot V) → List (Spot V)
closed at [] = []
closed zero (spot ∷ spots) =
    record { node = spot.node; value = spot.value; below = length spots } ∷ spots
closed (suc at) (spot ∷ spots) = spot ∷ closed at spots

-- what is not listed yet below a spot, from one of its edges on
abbrev pub owed : {V : Type 0} → Hands V → (ℕ → List ℕ) → ℕ → ℕ → Option (Spot V) → List (Spot V)
owed hands next count edge None = []
owed hands next count edge (Some spot) =
    all_listed (handed (hands spot.node) spot.value edge (map (tree_of hands next count) (drop edge (next spot.node))))

-- the spots when all branches are listed, the topmost first
abbrev pub finished : {V : Type 0} → Hands V → (ℕ → List ℕ) → ℕ → List (Spot V) → List Branch → List (Spot V)
finished hands next count spots [] = spots
finished hands next count spots (b ∷ branches) =
    finished hands next count (closed b.at (spots ++ owed hands next count b.edge (slice_get spots b.at))) branches

-- a bound on the steps left
abbrev pub left : {V : Type 0} → Hands V → (ℕ → List ℕ) → ℕ → List (Spot V) → List Branch → ℕ
left hands next count spots branches =
    2 * (length (finished hands next count spots branches) - length spots) + length branches

-- a step from the first spots and branches to the others: the same tree in the end, and fewer steps left
abbrev pub IsStep : {V : Type 0} → Hands V → (ℕ → List ℕ) → ℕ → List (Spot V) → List Branch → List (Spot V) → List Branch → Type 0
IsStep hands next count spots branches spots' branches' =
    (finished hands next count spots' branches' ≡ finished hands next count spots branches)
    × (left hands next count spots' branches' < left hands next count spots branches)
