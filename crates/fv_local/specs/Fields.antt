-- Uses of constraints that stand in one field.
use Rattle.std.specs.Prelude.{ℕ, List, Bool, false, nat_eq, slice_get}
use Rattle.std.specs.Option.{option_map_or}
use Rattle.fv_declare_schema.specs.Declarations.{Placed}
use Rattle.fv_declare_schema.specs.Places.{Place, whole, field}

-- the place is at the field of that number or inside it
abbrev pub is_at : ℕ → Place → Bool
is_at n whole = false
is_at n (field number steps kind) = nat_eq number n

-- the use stands there
abbrev pub stands_in : ℕ → Placed → Bool
stands_in n u = is_at n u.place

-- the use of that number among all stands there
abbrev pub is_of_field : List Placed → ℕ → ℕ → Bool
is_of_field us n i = option_map_or (stands_in n) (slice_get us i) false
