-- The part at which a batch is refused.
use Rattle.std.specs.Prelude.{◌≡◌, ℕ, List, take, slice_get, Some, Ok}
use Rattle.fv_declare_schema.specs.Declarations.{Declarations}
use Rattle.fv_engine_command.specs.Commands.{Part}
use Rattle.fv_engine_machine.specs.Refusals.{made}
use Rattle.fv_store.specs.Records.{Records}

-- a batch has a part of that number, and what is said holds of it and of the records that the parts before it leave
pub record IsStop (ds : Declarations) (m : Records) (ps : List Part) (n : ℕ) (Said : Records → Part → Type 0) : Type 0 where
  pub part : Part
  pub there : slice_get ps n ≡ Some part
  pub left : Records
  pub before : made ds (take n ps) m ≡ Ok left
  pub said : Said left part
