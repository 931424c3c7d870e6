-- The first so many ids of the records that pass a test, in order.
use Rattle.std.specs.Prelude.{◌≡◌, ℕ, List, Some}
use Rattle.std.specs.Ordering.{nat_cmp}
use Rattle.std.specs.declared.cmp.Ordering.TheVariants.{Less}
use Rattle.std.specs.Cmp.Lexicographic.{slice_cmp}
use Rattle.sqlite_rules.specs.Lists.{Has}
use Rattle.fv_datum.specs.Ascending.{IsAscending}
use Rattle.fv_store.specs.Records.{Kept, Records}

-- a record of the id that is as said, whose id is above this one by its bytes
pub record IsListedOf (m : Records) (Wanted : Kept → Type 0) (above id : List ℕ) : Type 0 where
  pub kept : Kept
  pub known : m id ≡ Some kept
  pub wanted : Wanted kept
  pub is_above : slice_cmp nat_cmp above id ≡ Less

-- all such ids above this one, each once, ascending by their bytes
pub record AreListedOf (m : Records) (Wanted : Kept → Type 0) (above : List ℕ) (ids : List (List ℕ)) : Type 0 where
  pub ascending : IsAscending ids
  pub sound : (id : List ℕ) → Has ids id → IsListedOf m Wanted above id
  pub complete : (id : List ℕ) → IsListedOf m Wanted above id → Has ids id
