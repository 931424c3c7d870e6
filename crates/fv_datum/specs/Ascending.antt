-- Names that ascend.
use Rattle.std.specs.Prelude.{ℕ, List}
use Rattle.std.specs.Cmp.Lexicographic.{slice_cmp}
use Rattle.std.specs.List.Sorted.{IsStrictlySortedBy}
use Rattle.std.specs.Ordering.{nat_cmp}

-- names that ascend by their bytes: each is below those after it
abbrev pub IsAscending : List (List ℕ) → Type 0
IsAscending = IsStrictlySortedBy (slice_cmp nat_cmp)
