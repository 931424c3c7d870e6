-- The violations by a list of the visits: each visit with the failures of its object, but for the visits that a failing visit shadows.
use Rattle.std.specs.Prelude.{◌≡◌, ℕ, List, [], fold}
use Rattle.fv_walk_traces.specs.Turns.{LocalFailure, Fail, Free, Turns, Shadows}
use Rattle.fv_walk_traces.specs.Reaching.{at_object, violation}
use Rattle.fv_walk_traces.specs.Requests.{GraphRequest}
use Rattle.fv_walk_traces.specs.Traces.{Arrives}
use Rattle.fv_walk_traces.specs.OneObject.{IsLocal}
use Rattle.fv_walk_traces.specs.Violations.{Violation, onward}

-- a visit at whose object something fails
abbrev pub IsFailing : GraphRequest → Turns → Type 0
IsFailing request visit =
    (steps : ℕ) × (object : ℕ) × (carried : ℕ) × (on : List ℕ) × (f : LocalFailure)
    × Arrives request steps visit object carried on × IsLocal request object carried f

-- the violation that a failure at the object of a visit is
abbrev pub violation_at : GraphRequest → Turns → LocalFailure → Violation
violation_at request visit f = violation (onward request (fold (onward request) (at_object [] request.root) visit) (Free (Fail f)))

-- a failure at the object of a visit that no failing visit shadows
abbrev pub IsListed : GraphRequest → Violation → Type 0
IsListed request v =
    (steps : ℕ) × (visit : Turns) × (object : ℕ) × (carried : ℕ) × (on : List ℕ) × (f : LocalFailure)
    × Arrives request steps visit object carried on × ((other : Turns) → IsFailing request other → Shadows other visit → ⊥)
    × IsLocal request object carried f × (v ≡ violation_at request visit f)
