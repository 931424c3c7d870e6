-- Paths that go on.
use Rattle.std.specs.Prelude.{◌≡◌, ℕ, List, [], ◌∷◌, ◌++◌, true}
use Rattle.fv_datum.specs.Name.{names}
use Rattle.fv_path.specs.Nodes.{PathNode, field}
use Rattle.fv_path.specs.Paths.{IsPath}

-- a field may stand behind these nodes
abbrev pub TakesField : List PathNode → Type 0
TakesField ns = (name : List ℕ) → names name ≡ true → IsPath (ns ++ field name ∷ [])
