-- A map whose keys don't fit isn't written.
use Rattle.std.proofs.Common.{◌≡◌, false, Err}
use Rattle.fv_datum.specs.Data.{map, Entries}
use Rattle.fv_datum.specs.Written.{datum_written, keys_fit}
use Rattle.fv_datum.specs.declared.fault.DatumFault.TheVariants.{WrongKind}

pub unfit : (es : Entries) → keys_fit es ≡ false → datum_written (map es) ≡ Err WrongKind
unfit es e = rw e
