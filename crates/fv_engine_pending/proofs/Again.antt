-- What is read again of the records fits, and the same is written of them.
use Rattle.std.proofs.Common.{◌≡◌, ℕ, List, map, true, cond, Option, Some, None, is_some, Result, Ok, Err, refl, ap, subst}
use Rattle.fv_datum.specs.Lookup.{at_name}
use Rattle.fv_model.specs.Extends.{Extends}
use Rattle.fv_bundle.specs.Bundles.{Bundled}
use Rattle.fv_model.specs.Reading.{bundle_of, bundle_read}
use Rattle.fv_bundle.specs.WellTyped.{HasRootType}
use Rattle.fv_model.specs.Writing.{bundle_json}
use Rattle.fv_model.specs.declared.fault.BundleFault.{BundleFault}
use Rattle.fv_model.proofs.Extended.{read_extended}
use Rattle.fv_model.proofs.Law.{part_for}
use Rattle.fv_model.proofs.Unfit.{refused_for_types}
use Rattle.fv_engine_pending.specs.Again.{again, if_read, all_again, AllReadAgain, is_unfit}
use Rattle.fv_engine_pending.specs.Steps.{faulty}
use Rattle.fv_engine_pending.specs.declared.fault.PartFault.{PartFault}
use Rattle.fv_engine_pending.specs.declared.fault.PartFault.TheVariants.{UnknownForm, Bundle}
use Rattle.fv_store.proofs.Again.{all_read_fit, all_read_written}
use Rattle.fv_store.specs.Again.{ReadsUnder}
use Rattle.fv_store.specs.Written.{writings}
use Rattle.fv_store.specs.Records.{Kept, Roots, RecordFits, Contents, AllFit}
use Rattle.fv_bundle.specs.Types.{Declared, FieldsApart}

read_ok : (r : Result Bundled BundleFault) (b : Bundled) → if_read (faulty r) ≡ Some b → r ≡ Ok b
read_ok (Ok x) b is = let same : x ≡ b = cc in ap (λ y. Ok y) same
read_ok (Err e) b is = cc

again_reads : (types : Declared) (forms : Roots) → ReadsUnder types forms (λ k. if_read (again types forms k))
again_reads types forms k b is = at (at_name k.form forms) refl is
  where
    at : (o : Option (List ℕ)) → at_name k.form forms ≡ o → if_read (cond (is_some o) (faulty (bundle_read types o (bundle_json k.bundle))) (Err UnknownForm)) ≡ Some b
        → (root : List ℕ) × (at_name k.form forms ≡ Some root) × (bundle_read types (Some root) (bundle_json k.bundle) ≡ Ok b)
    at None found is = cc
    at (Some root) found is = (root, found, read_ok (bundle_read types (Some root) (bundle_json k.bundle)) b is)

pub again_fit : (c : Contents) (bytes : List ℕ) (types : Declared) (forms : Roots) → FieldsApart types → AllFit c → AllFit (record { bytes = bytes; types = types; roots = forms; records = all_again types forms c.records })
again_fit c bytes types forms apart fit = all_read_fit c bytes types forms (λ k. if_read (again types forms k)) apart (again_reads types forms) fit

pub again_written : (c : Contents) (types : Declared) (forms : Roots) → FieldsApart types → AllFit c → AllReadAgain types forms c.records → writings (all_again types forms c.records) ≡ writings c.records
again_written c types forms apart fit all =
    all_read_written c types forms (λ k. if_read (again types forms k)) apart (again_reads types forms) fit (λ id k is. (let found = all id k is in (found.0, ap if_read found.1)))

-- a record that can't be read is of a form that isn't declared, or its bundle doesn't fit the types
pub unfit_why : (old types : Declared) (roots forms : Roots) (k : Kept) (why : PartFault) → RecordFits old roots k → again types forms k ≡ Err why → is_unfit why ≡ true
unfit_why old types roots forms k why fits is = at (at_name k.form forms) is
  where
    refused : (o : Option (List ℕ)) (r : Result Bundled BundleFault) → bundle_read types o (bundle_json k.bundle) ≡ r → faulty r ≡ Err why → is_unfit why ≡ true
    refused o (Ok b) read is = cc
    refused o (Err e) read is = let same : Bundle e ≡ why = cc in rw (← same) (refused_for_types old types o k.bundle e fits.typed read)

    at : (o : Option (List ℕ)) → cond (is_some o) (faulty (bundle_read types o (bundle_json k.bundle))) (Err UnknownForm) ≡ Err why → is_unfit why ≡ true
    at None is = let same : UnknownForm ≡ why = cc in rw (← same) refl
    at (Some root) is = refused (Some root) (bundle_read types (Some root) (bundle_json k.bundle)) refl is

-- under declarations that have each type, field and form that there was, each can be read
pub again_extended : (c : Contents) (types : Declared) (forms : Roots) → Extends c.types types → FieldsApart c.types → ((form root : List ℕ) → at_name form c.roots ≡ Some root → at_name form forms ≡ Some root) → AllFit c → AllReadAgain types forms c.records
again_extended c types forms extends apart roots fit id k is =
    let fits = fit id k is in
    let asked = roots k.form fits.root fits.declared in
    let read = read_extended c.types types (Some fits.root) k.bundle extends apart fits.typed (λ type e. (let same : fits.root ≡ type = cc in subst (λ (n : List ℕ). HasRootType n k.bundle) same fits.rooted)) in
    (bundle_of types (record { root = k.bundle.root; objects = map part_for k.bundle.objects }), rw asked (ap faulty read))
