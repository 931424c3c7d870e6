-- Attributes by what stands at each name.
use Rattle.std.specs.Prelude.{◌≡◌, ℕ, List, Bool, true, Option}
use Rattle.std.specs.Cmp.Lexicographic.{slice_cmp}
use Rattle.std.specs.FinMap.{is_sorted}
use Rattle.std.specs.Ordering.{nat_cmp}
use Rattle.fv_datum.specs.Attributes.{AttributeValue, Attributes}
use Rattle.fv_datum.specs.Lookup.{at_name}

-- the names ascend, so that each stands once
abbrev pub ascends : Attributes → Bool
ascends = is_sorted (slice_cmp nat_cmp)

-- attributes are the one map with these values: at each name stands its value, and nothing where it has none
pub record IsMapOf (value : List ℕ → Option AttributeValue) (attributes : Attributes) : Type 0 where
  pub each : (name : List ℕ) → at_name name attributes ≡ value name
  pub ascending : ascends attributes ≡ true
