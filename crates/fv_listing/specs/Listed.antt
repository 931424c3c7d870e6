-- What is told of the visits that are listed.
use Rattle.std.specs.Prelude.{◌≡◌, ◌↔◌, ◌⊎◌, List, [], ◌∷◌, ◌++◌}
use Rattle.fv_graph.specs.Graph.{IsIn}
use Rattle.fv_walk_traces.specs.Listing.{violation_at}
use Rattle.fv_walk_traces.specs.OneObject.{IsLocal}
use Rattle.fv_walk_traces.specs.Requests.{GraphRequest}
use Rattle.fv_walk_traces.specs.Turns.{LocalFailure, Turns, ShadowsByRecursion}
use Rattle.fv_walk_traces.specs.Violations.{Violation, IsViolation}
use Rattle.fv_listing.specs.Arrivals.{Arrival}

-- this fails at the object of a visit in the group that is carried there
abbrev pub FailsAt : GraphRequest → Arrival → LocalFailure → Type 0
FailsAt request a f = IsLocal request a.object a.carried f

-- exactly what fails there
pub record AreLocal (request : GraphRequest) (a : Arrival) (fails : List LocalFailure) : Type 0 where
  pub exact : (f : LocalFailure) → IsIn fails f ↔ FailsAt request a f

-- something fails there
pub record IsFailingAt (request : GraphRequest) (a : Arrival) : Type 0 where
  pub failure : LocalFailure
  pub fails : FailsAt request a failure

-- exactly the turns of those of all visits at which something fails
pub record AreFailing (request : GraphRequest) (all : List Arrival) (failing : List Turns) : Type 0 where
  pub exact : (turns : Turns) → IsIn failing turns ↔ ((a : Arrival) × IsIn all a × (turns ≡ a.turns) × IsFailingAt request a)

-- the turns of a visit are added to those of the failing ones, if something fails there
pub record AddsFailing (request : GraphRequest) (a : Arrival) (before after : List Turns) : Type 0 where
  pub exact : (all : List Arrival) → AreFailing request all before → AreFailing request (all ++ a ∷ []) after

-- one of these lists of turns shadows these turns
abbrev pub IsHidden : List Turns → Turns → Type 0
IsHidden failing turns = (other : Turns) × IsIn failing other × ShadowsByRecursion other turns

-- a violation is that of something that fails at a visit
abbrev pub IsToldOf : GraphRequest → Arrival → Violation → Type 0
IsToldOf request a v = (f : LocalFailure) × FailsAt request a f × (v ≡ violation_at request a.turns f)

-- what is told afterwards is what was told before, and what fails at a visit
pub record Tells (request : GraphRequest) (a : Arrival) (before after : List Violation) : Type 0 where
  pub exact : (v : Violation) → IsIn after v ↔ (IsIn before v ⊎ IsToldOf request a v)

-- exactly what fails at those of some visits that no failing turns shadow
pub record AreTold (request : GraphRequest) (failing : List Turns) (some : List Arrival) (vs : List Violation) : Type 0 where
  pub exact : (v : Violation) → IsIn vs v ↔ ((a : Arrival) × IsIn some a × (IsHidden failing a.turns → ⊥) × IsToldOf request a v)

-- exactly the violations
pub record AreViolations (request : GraphRequest) (vs : List Violation) : Type 0 where
  pub exact : (v : Violation) → IsIn vs v ↔ IsViolation request v
