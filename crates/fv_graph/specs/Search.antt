-- What a search along edges knows at each moment.
use Rattle.std.specs.Prelude.{◌≡◌, ◌<◌, ◌+◌, ℕ, List, [], ◌∷◌, map, drop, reverse, length, Bool, true, slice_index_or, Vec}
use Rattle.std.specs.declared.alloc.Global.{Global}
use mathlib.Core.Logic.{◌⊎◌}
use Rattle.fv_graph.specs.Graph.{IsIn, AllDiffer, MeetsCycle, next_of}
use Rattle.fv_graph.specs.declared.search.Mark.{Mark}
use Rattle.fv_graph.specs.declared.search.Mark.TheVariants.{New, Open, Done, Meets}
use Rattle.fv_graph.specs.declared.search.Frame.{Frame}

-- a node on the way, those of its edges that were not taken yet, and whether one that was led to a cycle
pub record Stand : Type 0 where
  pub node : ℕ
  pub left : List ℕ
  pub meets : Bool

-- the nodes on the way
abbrev pub nodes : List Stand → List ℕ
nodes stack = map (λ (f : Stand). f.node) stack

-- what a node's mark says
abbrev pub MarkSays : (ℕ → List ℕ) → List ℕ → List ℕ → ℕ → Mark → Type 0
MarkSays next done way i New = (IsIn done i → ⊥) × (IsIn way i → ⊥)
MarkSays next done way i Open = IsIn way i
MarkSays next done way i Done = IsIn done i
MarkSays next done way i Meets = MeetsCycle next i

-- what all marks say
abbrev pub AreMarked : (ℕ → List ℕ) → ℕ → List Mark → List ℕ → List ℕ → Type 0
AreMarked next count marks done way =
    (i : ℕ) → i < count → MarkSays next done way i (slice_index_or marks i New)

-- the latest first: all that a node's edges lead to was done before it
abbrev pub Follows : (ℕ → List ℕ) → List ℕ → Type 0
Follows next [] = Unit {0}
Follows next (i ∷ done) = ((j : ℕ) → IsIn (next i) j → IsIn done j) × Follows next done

-- a node on the way: each of its edges leads to what is done or is left to take, unless the node meets a cycle
pub record IsStand (next : ℕ → List ℕ) (done above : List ℕ) (f : Stand) : Type 0 where
  pub edges : (j : ℕ) → IsIn (next f.node) j → (f.meets ≡ true) ⊎ (IsIn done j ⊎ IsIn f.left j)
  pub upward : (j : ℕ) → IsIn above j → IsIn (next f.node) j
  pub left : (j : ℕ) → IsIn f.left j → IsIn (next f.node) j
  pub cycle : f.meets ≡ true → MeetsCycle next f.node

-- the topmost first: an edge of each node on the way leads to the node above it
abbrev pub IsWay : (ℕ → List ℕ) → List ℕ → List ℕ → List Stand → Type 0
IsWay next done above [] = Unit {0}
IsWay next done above (f ∷ below) = IsStand next done above f × IsWay next done (f.node ∷ []) below

-- the nodes on the way differ from each other and from what is done
abbrev pub AreApart : ℕ → List ℕ → List ℕ → Type 0
AreApart count done [] = Unit {0}
AreApart count done (i ∷ way) = (i < count) × (IsIn done i → ⊥) × (IsIn way i → ⊥) × AreApart count done way

-- all that is done are nodes of the graph
abbrev pub AreSmall : ℕ → List ℕ → Type 0
AreSmall count done = (i : ℕ) → IsIn done i → i < count

-- all that a search knows, of the marks, of what is done, the latest first, and of the way, the topmost first
pub record IsSearch (next : ℕ → List ℕ) (count : ℕ) (marks : List Mark) (done : List ℕ) (stack : List Stand) : Type 0 where
  pub each : length marks ≡ count
  pub marked : AreMarked next count marks done (nodes stack)
  pub apart : AreApart count done (nodes stack)
  pub way : IsWay next done [] stack
  pub follows : Follows next done
  pub once : AllDiffer done
  pub small : AreSmall count done

-- a frame of the stack as a node on the way
abbrev pub stand : List (Vec ℕ Global) → Frame → Stand
stand edges frame = record { node = frame.node; left = drop frame.next (next_of edges frame.node); meets = frame.meets }

-- the stack as the way, the topmost first
abbrev pub stands : List (Vec ℕ Global) → List Frame → List Stand
stands edges stack = map (λ frame. stand edges frame) (reverse stack)

-- all that a search knows, of what the code holds
abbrev pub Searches : List (Vec ℕ Global) → List Mark → List ℕ → List Frame → Type 0
Searches edges marks order stack = IsSearch (next_of edges) (length edges) marks (reverse order) (stands edges stack)

-- a node that is not new
abbrev pub IsMarked : List Mark → ℕ → Type 0
IsMarked marks i = slice_index_or marks i New ≡ New → ⊥

-- what was marked stays marked
abbrev pub StayMarked : List Mark → List Mark → Type 0
StayMarked old new = (i : ℕ) → IsMarked old i → IsMarked new i

-- how many steps a node may still take, with this mark and so many edges
abbrev pub weight_of : Mark → ℕ → ℕ
weight_of New edges = 2 + edges
weight_of Open edges = 0
weight_of Done edges = 0
weight_of Meets edges = 0

-- how many steps the nodes that are not marked may still take
abbrev pub unmarked : List (Vec ℕ Global) → List Mark → ℕ
unmarked [] marks = 0
unmarked (e ∷ edges) [] = 0
unmarked (e ∷ edges) (mark ∷ marks) = weight_of mark (length e.items) + unmarked edges marks

-- how many steps are left on the way
abbrev pub untaken : List Stand → ℕ
untaken [] = 0
untaken (f ∷ stack) = 1 + length f.left + untaken stack

-- a bound on the steps left
abbrev pub weighs : List (Vec ℕ Global) → List Mark → List Frame → ℕ
weighs edges marks stack = unmarked edges marks + untaken (stands edges stack)

-- a step of the search, from the first marks and stack to the others: what it knows, and fewer steps left
abbrev pub IsStep : List (Vec ℕ Global) → List Mark → List Frame → List Mark → List ℕ → List Frame → Type 0
IsStep edges marks stack marks' order' stack' =
    Searches edges marks' order' stack' × (weighs edges marks' stack' < weighs edges marks stack)
