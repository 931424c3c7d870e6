-- The uses of a type among all.
use Rattle.std.specs.Prelude.{◌≡◌, ◌<◌, ◌≤◌, ◌↔◌, ℕ, List, length, Some, slice_get}
use Rattle.fv_declare_schema.specs.Declarations.{Placed}
use Rattle.fv_local.specs.declared.type_uses.TypeUses.{TypeUses}

-- the uses of a type are those of the numbers from the first to before the end
pub record AreOfType (us : List Placed) (t : TypeUses) : Type 0 where
  pub within : t.end ≤ length us
  pub each : (i : ℕ) (u : Placed) → slice_get us i ≡ Some u → ((t.first ≤ i) × (i < t.end)) ↔ (u.type ≡ t.type_id.index)
