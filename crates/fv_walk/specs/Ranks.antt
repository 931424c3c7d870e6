-- What fails in a field in the ranks of groups, for private clauses.
use Rattle.std.specs.Prelude.{◌≡◌, ◌<◌, ℕ, ◌+◌, ℤ, List, [], ◌∷◌, Some, slice_get, length}
use Rattle.fv_datum.specs.Data.{Data, null}
use Rattle.fv_declare_schema.specs.Declarations.{Declarations}
use Rattle.fv_graph.specs.Graph.{IsIn}
use Rattle.fv_declare_schema.specs.Groups.{Groups, ranks}
use Rattle.fv_local.specs.Own.{own_in}
use Rattle.fv_bundle.specs.Bundles.{Thing}
use Rattle.fv_path.specs.Nodes.{PathNode}
use Rattle.fv_local.specs.Below.{below}
use Rattle.fv_registry.specs.Meanings.{Meanings}
use Rattle.fv_local.specs.Requests.{nodes_at, datum_of_part}
use Rattle.fv_walk_traces.specs.OneField.{own_of_field}
use Rattle.fv_walk_traces.specs.OneObject.{IsLocalIn}
use Rattle.fv_walk_traces.specs.Turns.{Spot, of_object, at, LocalFailure}
use Rattle.fv_walk_traces.specs.Violations.{Violation}

-- fails in the first of these groups in which anything does
abbrev pub FailsFirst : (ℕ → LocalFailure → Type 0) → List ℕ → LocalFailure → Type 0
FailsFirst Fails groups f =
    (k : ℕ) × (group : ℕ) × (slice_get groups k ≡ Some group) × Fails group f
    × ((j before : ℕ) (other : LocalFailure) → j < k → slice_get groups j ≡ Some before → Fails before other → ⊥)

-- fails in the field of that number of an object, in the groups that one stands for
abbrev pub FailsIn : Meanings → Declarations → ℤ → Thing → ℕ → ℕ → LocalFailure → Type 0
FailsIn m ds now object field group f = IsLocalIn (below ds.groups group) (λ h. own_of_field field (own_in m ds now object h)) f

-- the nodes that lead to a spot of an object
abbrev pub nodes_in : Thing → Spot → List PathNode
nodes_in object of_object = []
nodes_in object (at place locus) = nodes_at object place locus

-- the datum at a spot of an object; null at the object itself
abbrev pub datum_in : Thing → Spot → Data
datum_in object of_object = null
datum_in object (at place locus) = datum_of_part object place locus

-- a failure at a place in an object that is the root, as a violation
abbrev pub violation_in : Thing → LocalFailure → Violation
violation_in object f = record { path = nodes_in object f.spot; node = f.node; value = datum_in object f.spot }

-- a failure in the first of the ranks of one of these groups in which anything fails in the field
abbrev pub IsToldFor : Meanings → Declarations → ℤ → Thing → ℕ → List ℕ → Violation → Type 0
IsToldFor m ds now object field groups v =
    (g : ℕ) × (f : LocalFailure) × IsIn groups g × FailsFirst (FailsIn m ds now object field) (ranks ds.groups g) f × (v ≡ violation_in object f)

-- how many ranks these groups have
abbrev pub count_ranks : Groups → List ℕ → ℕ
count_ranks gs [] = 0
count_ranks gs (g ∷ groups) = length (ranks gs g) + count_ranks gs groups
