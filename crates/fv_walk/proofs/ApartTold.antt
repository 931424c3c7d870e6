-- What a walk tells is told apart.
use Rattle.std.proofs.Common.{◌↔◌, ℕ, ℤ, List}
use Rattle.fv_declare_schema.specs.Declarations.{Declarations}
use Rattle.fv_declare_schema.specs.Ordered.{AreOrdered}
use Rattle.fv_graph.specs.Graph.{IsIn}
use Rattle.fv_bundle.specs.Bundles.{Thing, Bundled}
use Rattle.fv_bundle.specs.WellTyped.{IsOfType, IsWellTyped}
use Rattle.fv_registry.specs.Meanings.{Meanings}
use Rattle.fv_local.proofs.Apart.{told_apart}
use Rattle.fv_local.specs.Requests.{request_of}
use Rattle.fv_walk_traces.specs.Violations.{Violation, IsViolation}
use Rattle.fv_walk.specs.Apart.{AreApart}
use Rattle.fv_walk.specs.Properties.{IsViolationIn}
use Rattle.fv_walk.proofs.Apart.{field_told_apart}

module _ (m : Meanings) (ds : Declarations) (now : ℤ) (asked : List ℕ) where
  pub bundle_apart : (b : Bundled) (fs : List Violation) → AreOrdered ds → IsWellTyped ds.types b → ((v : Violation) → IsIn fs v ↔ IsViolation (request_of m ds now b asked) v) → AreApart fs
  bundle_apart b fs ordered typed exact = λ v w one other path node. told_apart m ds now b asked ordered typed v w ((exact v).0 one) ((exact w).0 other) path node

  pub field_apart : (object : Thing) (name : List ℕ) (fs : List Violation) → AreOrdered ds → IsOfType ds.types object → ((v : Violation) → IsIn fs v ↔ IsViolationIn m ds now object name asked v) → AreApart fs
  field_apart object name fs ordered typed exact = λ v w one other path node. field_told_apart m ds now object name asked ordered typed v w ((exact v).0 one) ((exact w).0 other) path node
