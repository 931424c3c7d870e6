-- The violations of a request: the paths, nodes and values of the traces that none shadows.
use Rattle.std.specs.Prelude.{◌≡◌, ℕ, List, [], ◌∷◌, ◌++◌, cond, fold}
use Rattle.fv_datum.specs.Data.{Data, null, reference}
use Rattle.fv_path.specs.Nodes.{PathNode, is_part}
use Rattle.fv_walk_traces.specs.Turns.{Spot, of_object, at, FreeTurn, Ask, Step, Group, Fail, Turn, Free, Rank, Turns, Shadows}
use Rattle.fv_walk_traces.specs.Requests.{GraphRequest}
use Rattle.fv_walk_traces.specs.Traces.{IsTrace}

-- a violation: where it stands, the node that is reported, and the value
pub record Violation : Type 0 where
  pub path : List PathNode
  pub node : ℕ
  pub value : Data

-- a path without its last node where that names an element, a key or a value of a container
abbrev pub but_named : List PathNode → List PathNode
but_named [] = []
but_named (n ∷ []) = cond (is_part n) [] (n ∷ [])
but_named (n ∷ m ∷ ns) = n ∷ but_named (m ∷ ns)

-- the nodes that lead on to a spot of an object: none to the object itself
abbrev pub nodes_to : GraphRequest → ℕ → Spot → List PathNode
nodes_to request object of_object = []
nodes_to request object (at place locus) = request.nodes object place locus

-- the value at a spot of an object: the datum there, or a reference to the object
abbrev pub value_at : GraphRequest → ℕ → Spot → Data
value_at request object of_object = reference (request.name object)
value_at request object (at place locus) = request.datum object place locus

-- what some turns lead to: a path and an object, and after a failure its node and its value
pub record Reached : Type 0 where
  pub path : List PathNode
  pub object : ℕ
  pub node : ℕ
  pub value : Data

-- what one more turn leads to: a step goes to its target, a failure tells a node and a value, all others change nothing
abbrev pub onward : GraphRequest → Reached → Turn FreeTurn → Reached
onward request x (Free (Ask g)) = x
onward request x (Free (Step way)) =
    record { path = x.path ++ but_named (request.nodes x.object way.place way.locus); object = way.target; node = x.node; value = x.value }
onward request x (Free (Group h)) = x
onward request x (Free (Fail f)) =
    record { path = x.path ++ nodes_to request x.object f.spot; object = x.object; node = f.node; value = value_at request x.object f.spot }
onward request x (Rank i) = x

-- the path, the node and the value of a trace: what its turns lead to, one after the other, from the root on
abbrev pub violation_of : GraphRequest → Turns → Violation
violation_of request turns =
    let x : Reached = fold (onward request) (record { path = []; object = request.root; node = 0; value = null }) turns in
    record { path = x.path; node = x.node; value = x.value }

-- a violation of the request: that of a trace which no trace shadows
abbrev pub IsViolation : GraphRequest → Violation → Type 0
IsViolation request v = (r : Turns) × IsTrace request r × ((other : Turns) → IsTrace request other → Shadows other r → ⊥)
    × (v ≡ violation_of request r)
