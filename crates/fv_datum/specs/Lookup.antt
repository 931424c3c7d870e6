-- Look-ups by name.
use Rattle.std.specs.Prelude.{ℕ, List, Option}
use Rattle.std.specs.Str.{bytes_eq}
use Rattle.std.specs.Map.{lookup}

-- what stands at a name
abbrev pub at_name : {X : Type 0} → List ℕ → List (List ℕ × X) → Option X
at_name name = lookup (bytes_eq name)
