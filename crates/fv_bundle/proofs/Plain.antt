-- A datum of a plain kind can be written.
use Rattle.std.proofs.Common.{refl, inl, inr}
use Rattle.fv_datum.specs.Data.{Data}
use Rattle.fv_datum.specs.Kinds.{FitsKind, IsOfKind}
use Rattle.fv_datum.specs.declared.kind.Kind.{Kind}
use Rattle.fv_datum.specs.declared.kind.Kind.TheVariants as kind
use Rattle.fv_bundle.specs.Writing.{IsWritten}

plain_written : (k : Kind) (d : Data) → IsOfKind k d → IsWritten d
plain_written kind.Text d (s, it) = rw it refl
plain_written kind.Integer d (n, fits, it) = rw it refl
plain_written kind.Decimal d (s, passes, it) = rw it refl
plain_written kind.Boolean d (b, it) = rw it refl
plain_written kind.Date d (s, passes, it) = rw it refl
plain_written kind.Instant d (n, passes, it) = rw it refl
plain_written kind.Ref d (s, passes, it) = rw it refl
plain_written _ d none = absurd none

pub fits_written : (k : Kind) (d : Data) → FitsKind k d → IsWritten d
fits_written k d (inl is) = rw is refl
fits_written k d (inr of) = plain_written k d of
