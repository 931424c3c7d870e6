-- The names of a map's entries.
use Rattle.std.specs.Prelude.{ℕ, List, map, String, string_bytes}
use Rattle.std.specs.declared.alloc.Global.{Global}

-- the names of a map's entries
abbrev pub names_of : {X : Type 0} → List (String Global × X) → List (List ℕ)
names_of = map (λ e. string_bytes e.0)
