-- Objects whose parts have paths.
use Rattle.std.specs.Prelude.{◌≡◌, ℕ, List, true, Some, slice_get}
use Rattle.fv_datum.specs.Data.{Data}
use Rattle.fv_datum.specs.Name.{names}
use Rattle.fv_bundle.specs.Bundles.{Thing}
use Rattle.fv_bundle.specs.Writing.{IsWritten}
use Rattle.fv_local.specs.Loci.{IsIndexed}

-- each field of the object has a name, and holds a datum that can be written and whose indices are small
pub record IsSound (object : Thing) : Type 0 where
  pub named : (i : ℕ) (f : List ℕ × Data) → slice_get object.fields i ≡ Some f → names f.0 ≡ true
  pub written : (i : ℕ) (f : List ℕ × Data) → slice_get object.fields i ≡ Some f → IsWritten f.1
  pub indexed : (i : ℕ) (f : List ℕ × Data) → slice_get object.fields i ≡ Some f → IsIndexed f.1
