-- Which uses of constraints a group reaches at a type.
use Rattle.std.specs.Prelude.{◌≡◌, ◌<◌, ◌↔◌, ◌&&◌, ℕ, List, [], length, Bool, true, nat_eq, Option, Some, None, is_some, option_and_then, slice_get}
use Rattle.std.specs.List.{list_any, AllZip}
use Rattle.std.specs.Option.{option_map_or}
use Rattle.fv_declare_schema.specs.Declarations.{Placed, Declarations}
use Rattle.fv_graph.specs.Graph.{mem, IsIn}
use Rattle.fv_local.specs.Below.{below, groups_at}

-- a use at the type of that number that is in one of these groups
abbrev pub is_in : ℕ → List ℕ → Placed → Bool
is_in type hs u = nat_eq u.type type && list_any (mem hs) u.groups

-- the use of that number among all stands at the type of that number, and is in one of these groups
abbrev pub IsReached : Declarations → ℕ → List ℕ → ℕ → Type 0
IsReached ds type hs i = (u : Placed) × (slice_get ds.occurrences i ≡ Some u) × (is_in type hs u ≡ true)

-- these are the numbers of the uses at a type that are in one of these groups
abbrev pub AreReached : Declarations → ℕ → List ℕ → List ℕ → Type 0
AreReached ds type hs is = (i : ℕ) → IsIn is i ↔ IsReached ds type hs i

-- the ranks of a type's sequence, if it has one; 0 stands for the type's own name, and has the constraints in `Default`
abbrev pub ranks_of : Declarations → ℕ → Option (List ℕ)
ranks_of ds type = option_and_then (λ ranks. ranks) (slice_get ds.sequences type)

-- the groups that a group stands for outside of a sequence of the type
abbrev pub plain_groups : Declarations → ℕ → ℕ → List ℕ
plain_groups ds type g = groups_at ds.groups (is_some (ranks_of ds type)) g

-- a table of uses, by their numbers: for each type and group those that the group reaches outside of a sequence of the type; for each type
-- with a sequence those of each rank
pub record Table : Type 0 where
  pub plain : List (List (List ℕ))
  pub ranked : List (Option (List (List ℕ)))

-- the list of a row at a group; empty where there is none
abbrev pub list_at : List (List ℕ) → ℕ → List ℕ
list_at row g = option_map_or (λ is. is) (slice_get row g) []

-- the list of a table at a type and a group; empty where there is none
abbrev pub entry : List (List (List ℕ)) → ℕ → ℕ → List ℕ
entry rows type g = option_map_or (λ row. list_at row g) (slice_get rows type) []

-- the lists of a row are those of the groups outside of a sequence of the type
abbrev pub AreOfGroups : Declarations → ℕ → List (List ℕ) → Type 0
AreOfGroups ds type row = (g : ℕ) → g < length ds.groups → AreReached ds type (plain_groups ds type g) (list_at row g)

-- the lists of a type's ranks are those of the groups that each rank stands for
abbrev pub AreOfRanks : Declarations → ℕ → List ℕ → List (List ℕ) → Type 0
AreOfRanks ds type ranks lists = AllZip (λ r is. AreReached ds type (below ds.groups r) is) ranks lists

-- a type has lists of ranks exactly where it has a sequence
abbrev pub IsRanked : Declarations → ℕ → Option (List ℕ) → Option (List (List ℕ)) → Type 0
IsRanked ds type None None = Unit {0}
IsRanked ds type (Some ranks) (Some lists) = AreOfRanks ds type ranks lists
IsRanked ds type _ _ = ⊥

-- the table of declarations
pub record IsTableOf (ds : Declarations) (t : Table) : Type 0 where
  pub plain : (type g : ℕ) → type < length ds.types → g < length ds.groups → AreReached ds type (plain_groups ds type g) (entry t.plain type g)
  pub ranked : (type : ℕ) → type < length ds.types → IsRanked ds type (ranks_of ds type) (option_and_then (λ lists. lists) (slice_get t.ranked type))
