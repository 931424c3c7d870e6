-- A datum by itself, as it is read and judged.
use Rattle.std.proofs.Common.{◌≡◌, Bool, true, false, not, [], ◌∷◌, Option, Some, None, Result, Ok, Err, IfOk, is_some, refl, ◌∙◌}
use Rattle.serde_json.specs.Data as json
use Rattle.fv_datum.specs.Data.{Data}
use Rattle.fv_datum.specs.Outcomes.{Gives, first, unless_fault}
use Rattle.fv_datum.specs.View.{view}
use Rattle.fv_datum.specs.declared.datum.Datum.{Datum}
use Rattle.fv_bundle.specs.Fits.{Fits}
use Rattle.fv_bundle.specs.Flaws.{misfits, is_large, is_over}
use Rattle.fv_bundle.specs.Spelled.{datum_of}
use Rattle.fv_bundle.specs.Types.{TypeUse}
use Rattle.fv_bundle.proofs.Back as back
use Rattle.fv_bundle.proofs.Fitted.{IsFree, spelled_fits}
use Rattle.fv_model.specs.Reading.{datum_at, value_read}
use Rattle.fv_bundle.specs.WellTyped.{AnyName}
use Rattle.fv_model.specs.Writing.{IsWritten, datum_json}
use Rattle.fv_model.specs.declared.fault.BundleFault.{BundleFault}
use Rattle.fv_model.specs.declared.fault.BundleFault.TheVariants.{WrongKind, TooLarge, Memory}

-- ---- what is read fits

parts : (b c : Bool) (x y : Data) → unless_fault (first ((b, WrongKind) ∷ (c, TooLarge) ∷ [])) x ≡ Ok y → (b ≡ false) × (c ≡ false) × (x ≡ y)
parts true c x y is = cc
parts false true x y is = cc
parts false false x y is = (refl, refl, cc)

some_of : (o : Option Data) → not (is_some o) ≡ false → (x : Data) × (o ≡ Some x)
some_of (Some x) e = (x, refl)
some_of None e = cc

read_fits : (u : TypeUse) (j : json.Data) (d : Data) → IsWritten d → value_read u j ≡ Ok d → Fits AnyName u d
read_fits u j d can is =
    let found = parts (misfits (Some u) j) (is_large (Some u) j) (datum_at u (Some j)) d is in
    let spelled = some_of (datum_of u j) found.0 in
    let same : spelled.0 ≡ d = rw spelled.1 at found.2 in
    let free : IsFree is_over is_over u j = record { first = found.1; second = found.1; small = found.1 } in
    spelled_fits AnyName is_over is_over u j d (λ type name k is there own. tt) (spelled.1 ∙ rw same refl) can free

pub gives_fits : (r : Result Datum BundleFault) (u : TypeUse) (j : json.Data) → IfOk r (λ d. IsWritten (view d)) → Gives Memory view r (value_read u j) → IfOk r (λ d. Fits AnyName u (view d))
gives_fits (Ok d) u j can given = read_fits u j (view d) can given
gives_fits (Err e) u j can given = tt

-- ---- what was written of a datum that fits is read as it

pub value_back : (u : TypeUse) (d : Data) → Fits AnyName u d → value_read u (datum_json d) ≡ Ok d
value_back u d fits =
    let read = back.read_back AnyName u d fits in
    let small = back.none_large AnyName u d fits in
    rw (read, small) refl
