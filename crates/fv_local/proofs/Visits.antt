-- The visits of a request don't depend on what fails.
use Rattle.std.proofs.Common.{◌≡◌, ◌↔◌, ℕ, zero, suc, List}
use Rattle.fv_declare_schema.specs.Declarations.{Declarations}
use Rattle.fv_bundle.specs.Bundles.{Bundled}
use Rattle.fv_walk_traces.specs.Requests.{Own}
use Rattle.fv_walk_traces.specs.Traces.{Arrives, IsVisit}
use Rattle.fv_walk_traces.specs.Turns.{Turns}
use Rattle.fv_local.specs.Requests.{request_for}

module _ (ds : Declarations) (b : Bundled) (groups : List ℕ) (own other : ℕ → ℕ → Own) where
  arrives_same : (steps : ℕ) (turns : Turns) (object carried : ℕ) (on : List ℕ) → Arrives (request_for own ds b groups) steps turns object carried on → Arrives (request_for other ds b groups) steps turns object carried on
  arrives_same zero turns object carried on h = h
  arrives_same (suc steps) turns object carried on h =
      (h.0, h.1, h.2, h.3, h.4, h.5, arrives_same steps h.0 h.1 h.2 h.3 h.6, h.7, h.8, h.9, h.10, h.11, h.12)

  pub visit_same : (turns : Turns) → IsVisit (request_for own ds b groups) turns → IsVisit (request_for other ds b groups) turns
  visit_same turns (steps, object, carried, on, h) = (steps, object, carried, on, arrives_same steps turns object carried on h)
