-- What is written of a record is read again.
use Rattle.std.proofs.Common.{◌≡◌, ℕ, List, Bool, true, Option, Some, None, is_some, option_map, Result, Err, cond, refl, sym, ap, ◌∙◌}
use Rattle.std.specs.Result.{result_map_both}
use Rattle.serde_json.specs.Data as json
use Rattle.fv_datum.specs.Lookup.{at_name}
use Rattle.fv_declare_schema.specs.Declarations.{Declarations}
use Rattle.fv_engine_pending.specs.Passes.{IsReread, reread}
use Rattle.fv_engine_pending.specs.Steps.{faulty}
use Rattle.fv_engine_pending.specs.declared.fault.PartFault.{PartFault}
use Rattle.fv_engine_pending.specs.declared.fault.PartFault.TheVariants.{UnknownForm, Bundle}
use Rattle.fv_model.specs.Reading.{bundle_read}
use Rattle.fv_model.specs.Writing.{bundle_json}
use Rattle.fv_model.specs.declared.fault.BundleFault.{BundleFault}
use Rattle.fv_store.specs.Again.{with_bundle}
use Rattle.fv_store.specs.Records.{Kept}
use Rattle.fv_store.specs.Stored.{untyped}

-- a record read again as one of a root's type, if there is one
abbrev pub reread_as : Declarations → Kept → Option (List ℕ) → Result Kept PartFault
reread_as ds k root = result_map_both (with_bundle k) (λ why. why) (cond (is_some root) (faulty (bundle_read ds.types root (bundle_json k.bundle))) (Err UnknownForm))

same_some : {X : Type 0} (o : Option X) (a b : X) → o ≡ Some a → o ≡ Some b → a ≡ b
same_some o a b one other = cc

form_of : (form : List ℕ) (read : Option json.Data) (k : Kept) → (form, read) ≡ untyped k → form ≡ k.form
form_of form read k written = ap (λ (x : List ℕ × Option json.Data). x.0) written

json_of : (form : List ℕ) (read : Option json.Data) (k : Kept) → (form, read) ≡ untyped k → read ≡ Some (bundle_json k.bundle)
json_of form read k written = ap (λ (x : List ℕ × Option json.Data). x.1) written

module _ (ds : Declarations) (form : List ℕ) (read : Option json.Data) (root : Option (List ℕ)) (is : root ≡ at_name form ds.forms) (declared : is_some root ≡ true) (j : json.Data) (reads : read ≡ Some j) where
  -- by the type of the root of the form that is written
  under : (k : Kept) → (form, read) ≡ untyped k → reread ds k ≡ result_map_both (with_bundle k) (λ why. why) (faulty (bundle_read ds.types root j))
  under k written =
      let type : at_name k.form ds.forms ≡ root = ap (λ f. at_name f ds.forms) (sym (form_of form read k written)) ∙ sym is in
      let same : bundle_json k.bundle ≡ j = same_some read (bundle_json k.bundle) j (json_of form read k written) reads in
      ap (reread_as ds k) type
      ∙ ap (λ (b : Bool). result_map_both (with_bundle k) (λ why. why) (cond b (faulty (bundle_read ds.types root (bundle_json k.bundle))) (Err UnknownForm))) declared
      ∙ ap (λ x. result_map_both (with_bundle k) (λ why. why) (faulty (bundle_read ds.types root x))) same

  pub reread_fault : (e : BundleFault) → bundle_read ds.types root j ≡ Err e → IsReread ds (form, read) (Err (Bundle e))
  reread_fault e is k written = under k written ∙ ap (λ x. result_map_both (with_bundle k) (λ why. why) (faulty x)) is

pub seen_some : {X Y : Type 0} (view : X → Y) (o : Option X) → is_some o ≡ true → is_some (option_map view o) ≡ true
seen_some view None some = some
seen_some view (Some x) some = refl
