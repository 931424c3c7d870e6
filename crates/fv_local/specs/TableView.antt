-- The table that contracts see.
use Rattle.std.specs.Prelude.{ℕ, List, map, Option, option_map, Vec}
use Rattle.std.specs.declared.alloc.Global.{Global}

-- lists of numbers
abbrev pub lists_view : List (Vec ℕ Global) → List (List ℕ)
lists_view = map (λ v. v.items)

-- rows of such lists
abbrev pub rows_view : List (Vec (Vec ℕ Global) Global) → List (List (List ℕ))
rows_view = map (λ row. lists_view row.items)

-- such lists, where there are any
abbrev pub ranked_view : List (Option (Vec (Vec ℕ Global) Global)) → List (Option (List (List ℕ)))
ranked_view = map (option_map (λ row. lists_view row.items))
