use Rattle.std.proofs.Common.{◌≡◌, ◌≢◌, Option, Some, None, Ok, Err, not, is_some, unwrap_or, refl, ap}
use Rattle.std.specs.Option.{ok_or}
use Rattle.serde_json.specs.View.{view as json_view}
use Rattle.fv_datum.specs.Data.{Data, null}
use Rattle.fv_datum.specs.View.{view}
use Rattle.fv_datum.specs.declared.fault.DatumFault.{DatumFault}
use Rattle.fv_datum.specs.declared.fault.DatumFault.TheVariants.{WrongKind, Memory}
use Rattle.fv_bundle.specs.Spelled.{datum_of}
use Rattle.fv_bundle.specs.Types.{type_use_view}
use Rattle.fv_model.specs.Fitting.{unless_wrong}
use Rattle.fv_model.specs.declared.fault.BundleFault.TheVariants as bundle
use Rattle.fv_model.proofs.spelled.spelled_datum.Goals as goal

read : (o : Option Data) (d : Data) → ok_or o WrongKind ≡ Ok d → unless_wrong (not (is_some o)) (unwrap_or o null) ≡ Ok d
read (Some x) d e = let same : x ≡ d = cc in ap (λ y. Ok y) same
read None d e = cc

refused : (o : Option Data) (e : DatumFault) → e ≡ WrongKind → (e ≢ Memory → ok_or o WrongKind ≡ Err e) → unless_wrong (not (is_some o)) (unwrap_or o null) ≡ Err bundle.WrongKind
refused (Some d) e wrong told =
    let other : e ≢ Memory = λ memory. cc in
    let no : ok_or (Some d) WrongKind ≡ Err e = told other in
    cc
refused None e wrong told = refl

pub returns-in-Ok-clause-exact : goal.returns-in-Ok-clause-exact
returns-in-Ok-clause-exact c = read (datum_of (type_use_view c.args.type_use.now) (json_view c.args.value.now)) (view c.in-Ok.datum) c.in-Ok.ensures.exact

pub returns-in-Err-WrongKind-clause-exact : goal.returns-in-Err-WrongKind-clause-exact
returns-in-Err-WrongKind-clause-exact c =
    λ other. refused (datum_of (type_use_view c.args.type_use.now) (json_view c.args.value.now)) c.in-Err-WrongKind.field-0 c.in-Err-WrongKind.field-0-is c.in-Err-WrongKind.ensures.exact
