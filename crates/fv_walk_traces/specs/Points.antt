-- The points that a request passes, turn by turn, and what may come next at each.
use Rattle.std.specs.Prelude.{ℕ, List, [], ◌∷◌, ◌++◌, map, true, false, cond}
use Rattle.fv_graph.specs.Graph.{mem}
use Rattle.fv_walk_traces.specs.Turns.{Way, FreeTurn, Ask, Step, Group, Fail}
use Rattle.fv_walk_traces.specs.Requests.{Own, Plain, InRanks, GraphRequest}
use Rattle.fv_walk_traces.specs.Unfold.{Options, Fails, Any, InOrder}

-- before the first turn; at an object where a sequence was handed on; at an object where a group is carried; among an object's own
-- constraints of a group; behind a failure
pub data Point : Type 0 where
  Start : Point
  Choosing : (object group : ℕ) → (on : List ℕ) → Point
  Standing : (object carried : ℕ) → (on : List ℕ) → Point
  Within : Own → Point
  Failed : Point

-- a group is handed on to an object
abbrev pub handed : GraphRequest → ℕ → ℕ → List ℕ → Point
handed request object g on = cond (request.is_sequence g) (Choosing object g on) (Standing object g on)

-- the steps from an object to objects that aren't on the way
abbrev pub step_options : GraphRequest → ℕ → ℕ → List ℕ → List Way → List (FreeTurn × Point)
step_options request object carried on [] = []
step_options request object carried on (way ∷ ways) =
    cond (mem on way.target) (step_options request object carried on ways)
    ((Step way, handed request way.target (request.converted object way.place carried) (way.target ∷ on)) ∷ step_options request object carried on ways)

-- what may come next at a point
abbrev pub next : GraphRequest → Point → Options FreeTurn Point
next request Start = Any false (map (λ g. (Ask g, handed request request.root g (request.root ∷ []))) request.asked)
next request (Choosing object group on) = InOrder (map (λ m. Standing object m on) (request.ranks group))
next request (Standing object carried on) =
    Any true (map (λ h. (Group h, Within (request.own object h))) (request.below carried) ++ step_options request object carried on (request.ways object))
next request (Within (Plain fails)) = Any false (map (λ f. (Fail f, Failed)) fails)
next request (Within (InRanks lists)) = InOrder (map (λ fails. Within (Plain fails)) lists)
next request Failed = Fails
