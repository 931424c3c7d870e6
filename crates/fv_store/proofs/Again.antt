-- Records that are read again fit the declarations under which they are read, and the same is written of them.
use Rattle.std.proofs.Common.{◌≡◌, ℕ, List, Option, Some, None, Ok, option_map, option_and_then, refl, ap, subst}
use Rattle.std.proofs.Math.Path.{fun_ext}
use Rattle.fv_datum.specs.Lookup.{at_name}
use Rattle.fv_bundle.specs.Types.{Declared, FieldsApart}
use Rattle.fv_bundle.specs.Bundles.{Bundled}
use Rattle.fv_model.specs.Reading.{bundle_read}
use Rattle.fv_model.specs.Writing.{bundle_json, bundle_written}
use Rattle.fv_model.proofs.Again.{alike, again_typed}
use Rattle.fv_model.proofs.Typed.{read_root}
use Rattle.fv_store.specs.Again.{with_bundle, all_read, ReadsUnder, AllRead}
use Rattle.fv_store.specs.Records.{Kept, Roots, RecordFits, Contents, AllFit}
use Rattle.fv_store.specs.Written.{written_of, writings}

-- ---- one record

-- it is read as this bundle, under its form
abbrev IsReadAs : Declared → Roots → Kept → Bundled → Type 0
IsReadAs types forms k b = (root : List ℕ) × (at_name k.form forms ≡ Some root) × (bundle_read types (Some root) (bundle_json k.bundle) ≡ Ok b)

pub record_fits : (old types : Declared) (roots forms : Roots) (k : Kept) (b : Bundled) → FieldsApart types → RecordFits old roots k → IsReadAs types forms k b → RecordFits types forms (with_bundle k b)
record_fits old types roots forms k b apart fits is = record {
  root = is.0;
  declared = is.1;
  typed = again_typed old types (Some is.0) k.bundle b apart fits.typed is.2;
  rooted = read_root types is.0 (bundle_json k.bundle) b is.2;
}

pub record_written : (old types : Declared) (roots forms : Roots) (k : Kept) (b : Bundled) → FieldsApart types → RecordFits old roots k → IsReadAs types forms k b → written_of (with_bundle k b) ≡ written_of k
record_written old types roots forms k b apart fits is =
    let same : bundle_written b ≡ bundle_written k.bundle = alike old types (Some is.0) k.bundle b apart fits.typed is.2 in
    ap (λ w. record { form = k.form; root = w.0; objects = w.1 }) same

-- ---- all records

read_parts : (read : Kept → Option Bundled) (o : Option Kept) (k : Kept) → option_and_then (λ x. option_map (with_bundle x) (read x)) o ≡ Some k → (was : Kept) × (b : Bundled) × (o ≡ Some was) × (read was ≡ Some b) × (with_bundle was b ≡ k)
read_parts read None k is = cc
read_parts read (Some was) k is = at (read was) refl is
  where
    at : (r : Option Bundled) → read was ≡ r → option_map (with_bundle was) r ≡ Some k → (w : Kept) × (b : Bundled) × (Some was ≡ Some w) × (read w ≡ Some b) × (with_bundle w b ≡ k)
    at None found is = cc
    at (Some b) found is = (was, b, refl, found, cc)

-- those that can be read fit
pub all_read_fit : (c : Contents) (bytes : List ℕ) (types : Declared) (forms : Roots) (read : Kept → Option Bundled) → FieldsApart types → ReadsUnder types forms read → AllFit c
    → AllFit (record { bytes = bytes; types = types; roots = forms; records = all_read read c.records })
all_read_fit c bytes types forms read apart reads fit id k is =
    let parts = read_parts read (c.records id) k is in
    subst (λ (x : Kept). RecordFits types forms x) parts.4 (record_fits c.types types c.roots forms parts.0 parts.1 apart (fit id parts.0 parts.2) (reads parts.0 parts.1 parts.3))

-- where each can be read, the same is written of all
pub all_read_written : (c : Contents) (types : Declared) (forms : Roots) (read : Kept → Option Bundled) → FieldsApart types → ReadsUnder types forms read → AllFit c → AllRead read c.records → writings (all_read read c.records) ≡ writings c.records
all_read_written c types forms read apart reads fit all = fun_ext (λ id. at id (c.records id) refl)
  where
    at : (id : List ℕ) (o : Option Kept) → c.records id ≡ o → option_map written_of (option_and_then (λ x. option_map (with_bundle x) (read x)) o) ≡ option_map written_of o
    at id None is = refl
    at id (Some k) is =
        let found = all id k is in
        rw found.1 (ap (λ w. Some w) (record_written c.types types c.roots forms k found.0 apart (fit id k is) (reads k found.0 found.1)))
