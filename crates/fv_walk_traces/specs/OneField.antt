-- A request for one field of its root: the traces of that field alone, and no steps.
use Rattle.std.specs.Prelude.{◌≡◌, ℕ, [], ◌∷◌, ◌++◌, map, filter, Bool, true, false, nat_eq}
use Rattle.fv_graph.specs.Graph.{IsIn}
use Rattle.fv_walk_traces.specs.Turns.{Spot, of_object, at, LocalFailure, Way, Step, Fail, Free, Turns, Shadows}
use Rattle.fv_walk_traces.specs.Requests.{Own, Plain, InRanks, GraphRequest}
use Rattle.fv_walk_traces.specs.Traces.{Asks, IsTrace}
use Rattle.fv_walk_traces.specs.Violations.{Violation, violation_of}

-- a spot at a place that begins with the field
abbrev pub begins_with : ℕ → Spot → Bool
begins_with field of_object = false
begins_with field (at place locus) = nat_eq place.field field

-- a trace without steps, whose failure's place begins with the field
abbrev pub IsTraceOfField : GraphRequest → ℕ → Turns → Type 0
IsTraceOfField request field turns =
    IsTrace request turns
    × ((way : Way) → IsIn turns (Free (Step way)) → ⊥)
    × ((before : Turns) × (f : LocalFailure) × (turns ≡ before ++ Free (Fail f) ∷ []) × (begins_with field f.spot ≡ true))

-- a visit: part 1 alone
abbrev pub IsVisitOfField : GraphRequest → Turns → Type 0
IsVisitOfField request turns = (carried : ℕ) × Asks request turns carried

-- no trace of the field shadows these turns
abbrev pub IsSparedOfField : GraphRequest → ℕ → Turns → Type 0
IsSparedOfField request field turns = (other : Turns) → IsTraceOfField request field other → Shadows other turns → ⊥

-- a visit that no trace of the field shadows
abbrev pub IsEnteredOfField : GraphRequest → ℕ → Turns → Type 0
IsEnteredOfField request field turns = IsVisitOfField request turns × IsSparedOfField request field turns

-- a violation of the field: that of a trace of the field which no trace of the field shadows
abbrev pub IsViolationOfField : GraphRequest → ℕ → Violation → Type 0
IsViolationOfField request field v =
    (r : Turns) × IsTraceOfField request field r × ((other : Turns) → IsTraceOfField request field other → Shadows other r → ⊥)
    × (v ≡ violation_of request r)

-- the failure's place begins with the field
abbrev pub is_in_field : ℕ → LocalFailure → Bool
is_in_field field f = begins_with field f.spot

-- what fails at places that begin with the field
abbrev pub own_of_field : ℕ → Own → Own
own_of_field field (Plain fails) = Plain (filter (is_in_field field) fails)
own_of_field field (InRanks lists) = InRanks (map (filter (is_in_field field)) lists)

-- the request in which objects hold no reference that is valid, and fail at places that begin with the field alone
abbrev pub narrowed : ℕ → GraphRequest → GraphRequest
narrowed field request = record {
  asked = request.asked;
  root = request.root;
  is_sequence = request.is_sequence;
  ranks = request.ranks;
  ways = λ _. [];
  converted = request.converted;
  below = request.below;
  own = λ object h. own_of_field field (request.own object h);
  nodes = request.nodes;
  datum = request.datum;
  name = request.name;
}
