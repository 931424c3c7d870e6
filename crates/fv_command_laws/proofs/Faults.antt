-- A request that is refused for a bundle's fault has it.
use Rattle.std.proofs.Common.{◌≡◌, ℕ, zero, suc, List, [], ◌∷◌, Bool, true, false, ◌||◌, if◌then◌else◌, Option, Some, None, is_some, option_map, option_and_then, slice_get, Result, Ok, Err, refl, sym, ap, ◌∙◌}
use Rattle.std.specs.List.{list_any}
use Rattle.std.specs.Option.{option_map_or}
use Rattle.std.specs.Result.{result_err, result_map_both}
use Rattle.fv_bundle.specs.Bundles.{Bundled}
use Rattle.fv_command_laws.proofs.Causes.{said, held, not_held}
use Rattle.fv_command_laws.specs.Faulty.{IsFaultyPart, IsFaulty}
use Rattle.fv_datum.specs.Data.{Data}
use Rattle.fv_datum.specs.Lookup.{at_name}
use Rattle.fv_declare_schema.specs.Declarations.{Declarations}
use Rattle.fv_engine_command.specs.Commands.{Part, put, set, remove, Request, too_long, not_json, shape, alone, batch, get, check, check_field, check_value, list}
use Rattle.fv_engine_machine.specs.Refusals.{refusal, when, is_too_long, is_no_json, is_misshapen_line, lacks_form, value_fault, part_fault, part_refusal, lacks_record, lacks_group, lacks_field, made, told_fault}
use Rattle.fv_engine_pending.specs.Parts as parts
use Rattle.fv_engine_pending.specs.declared.fault.PartFault.{PartFault}
use Rattle.fv_engine_pending.specs.declared.fault.PartFault.TheVariants as part
use Rattle.fv_engine_reply.specs.Answers.{refused, part_refused}
use Rattle.fv_engine_reply.specs.declared.answer.Refusal.{Refusal}
use Rattle.fv_engine_reply.specs.declared.answer.Refusal.TheVariants as why
use Rattle.fv_model.specs.Reading.{bundle_read, value_read}
use Rattle.fv_model.specs.Setting.{bundle_set}
use Rattle.fv_model.specs.declared.fault.BundleFault.{BundleFault}
use Rattle.fv_model.specs.declared.fault.BundleFault.TheVariants as fault
use Rattle.fv_bundle.specs.Types.{TypeUse}
use Rattle.fv_store.specs.Records.{Kept, Records, without_record}
use Rattle.fv_validate.specs.Values.{field_use}

neither : (a b : Bool) → (a || b) ≡ false → (a ≡ false) × (b ≡ false)
neither true b e = cc
neither false b e = (refl, e)

-- an element of a list in which none passes a test doesn't pass it
pub none_there : {X : Type 0} (test : X → Bool) (xs : List X) (n : ℕ) (x : X) → list_any test xs ≡ false → slice_get xs n ≡ Some x → test x ≡ false
none_there test [] zero x none at = cc
none_there test [] (suc n) x none at = cc
none_there test (y ∷ ys) zero x none at =
    let same : y ≡ x = cc in
    ap test (sym same) ∙ (neither (test y) (list_any test ys) none).0
none_there test (y ∷ ys) (suc n) x none at = none_there test ys n x (neither (test y) (list_any test ys) none).1 at

-- ---- parts

pub err_same : {X E : Type 0} (e f : E) → ◌≡◌ {A = Result X E} (Err e) (Err f) → e ≡ f
err_same e f is = cc

-- a bundle that isn't kept has the fault that is told
kept_fault : (id form : List ℕ) (m : Records) (b : Result Bundled BundleFault) (e : PartFault) (f : BundleFault) → parts.kept_as id form m b ≡ Err e → part_refusal e ≡ why.Bundle f → b ≡ Err f
kept_fault id form m (Ok b) e f is same = cc
kept_fault id form m (Err g) e f is same =
    let this : part.Bundle g ≡ e = err_same (part.Bundle g) e is in
    let told : why.Bundle g ≡ why.Bundle f = ap part_refusal this ∙ same in
    let fault : g ≡ f = cc in
    ap Err fault

-- a bundle of the form of one isn't refused for its form
not_shape : (b : Result Bundled BundleFault) (f : BundleFault) → parts.is_misread b ≡ false → b ≡ Err f → f ≡ fault.Shape → ⊥
not_shape b f read is same = let never : true ≡ false = sym (ap parts.is_misread (is ∙ ap Err same)) ∙ read in cc

other_fault : (e : PartFault) (d : PartFault) (f : BundleFault) → d ≡ e → part_refusal e ≡ why.Bundle f → part_refusal d ≡ why.Bundle f
other_fault e d f is same = ap part_refusal is ∙ same

-- a part that can't be made for a bundle's fault has it
pub part_at_fault : (ds : Declarations) (m : Records) (p : Part) (e : PartFault) (f : BundleFault) → parts.is_misshapen ds.types ds.forms p ≡ false → parts.part_made ds.types ds.forms p m ≡ Err e
    → part_refusal e ≡ why.Bundle f → IsFaultyPart ds m p f
part_at_fault ds m (put id form j) e f read is same = go (at_name form ds.forms) refl is read
  where
    go : (o : Option (List ℕ)) → at_name form ds.forms ≡ o → (if is_some o then parts.kept_as id form m (bundle_read ds.types o j) else Err part.UnknownForm) ≡ Err e
        → parts.is_misread (bundle_read ds.types o j) ≡ false → IsFaultyPart ds m (put id form j) f
    go (Some root) at got shaped =
        let found = kept_fault id form m (bundle_read ds.types (Some root) j) e f got same in
        (root, at, found, not_shape (bundle_read ds.types (Some root) j) f shaped found)
    go None at got shaped = let told = other_fault e part.UnknownForm f (err_same part.UnknownForm e got) same in cc
part_at_fault ds m (set id object field j) e f read is same = go (m id) refl is
  where
    go : (o : Option Kept) → m id ≡ o → option_map_or (λ k. parts.kept_as id k.form m (bundle_set ds.types k.bundle object field j)) o (Err part.NoRecord) ≡ Err e
        → IsFaultyPart ds m (set id object field j) f
    go (Some k) at got = (k, at, kept_fault id k.form m (bundle_set ds.types k.bundle object field j) e f got same)
    go None at got = let told = other_fault e part.NoRecord f (err_same part.NoRecord e got) same in cc
part_at_fault ds m (remove id) e f read is same = go (m id) is
  where
    go : (o : Option Kept) → option_map_or (λ k. Ok (without_record id m)) o (Err part.NoRecord) ≡ Err e → ⊥
    go (Some k) got = cc
    go None got = let told = other_fault e part.NoRecord f (err_same part.NoRecord e got) same in cc

-- ---- requests

module _ (ds : Declarations) (m : Records) (f : BundleFault) where
  value_at_fault : (r : Request) → value_fault ds r ≡ Some (refused (why.Bundle f)) → IsFaulty ds m r f
  value_at_fault (check_value type field j names) e = of_use (field_use ds.types type field) refl e
    where
      of_value : (u : TypeUse) (res : Result Data BundleFault) → option_map (λ g. refused (why.Bundle g)) (result_err res) ≡ Some (refused (why.Bundle f)) → res ≡ Err f
      of_value u (Ok d) told = cc
      of_value u (Err g) told = let same : g ≡ f = cc in ap Err same

      of_use : (o : Option TypeUse) → field_use ds.types type field ≡ o
          → option_and_then (λ u. option_map (λ g. refused (why.Bundle g)) (result_err (value_read u j))) o ≡ Some (refused (why.Bundle f))
          → IsFaulty ds m (check_value type field j names) f
      of_use None at told = cc
      of_use (Some u) at told = (u, at, of_value u (value_read u j) told)
  value_at_fault too_long e = cc
  value_at_fault not_json e = cc
  value_at_fault shape e = cc
  value_at_fault (alone p) e = cc
  value_at_fault (batch ps) e = cc
  value_at_fault (get id) e = cc
  value_at_fault (check id names) e = cc
  value_at_fault (check_field id object field names) e = cc
  value_at_fault (list form after limit) e = cc

  parts_at_fault : (r : Request) → is_misshapen_line ds r ≡ false → part_fault ds m r ≡ Some (refused (why.Bundle f)) → IsFaulty ds m r f
  parts_at_fault (alone p) shaped e = go (parts.part_made ds.types ds.forms p m) refl e
    where
      go : (res : Result Records PartFault) → parts.part_made ds.types ds.forms p m ≡ res
          → told_fault (λ n why. refused why) (parts.and_then (parts.parts_made ds.types ds.forms 1 []) (result_map_both (λ x. x) (λ e. (0, e)) res)) ≡ Some (refused (why.Bundle f))
          → IsFaultyPart ds m p f
      go (Ok left) is told = cc
      go (Err e) is told =
          let same : part_refusal e ≡ why.Bundle f = cc in
          part_at_fault ds m p e f (neither (parts.is_misshapen ds.types ds.forms p) false shaped).0 is same
  parts_at_fault (batch ps) shaped e = go (made ds ps m) e
    where
      go : (res : Result Records (ℕ × PartFault)) → told_fault part_refused res ≡ Some (refused (why.Bundle f)) → ⊥
      go (Ok left) told = cc
      go (Err e) told = cc
  parts_at_fault too_long shaped e = cc
  parts_at_fault not_json shaped e = cc
  parts_at_fault shape shaped e = cc
  parts_at_fault (get id) shaped e = cc
  parts_at_fault (check id names) shaped e = cc
  parts_at_fault (check_field id object field names) shaped e = cc
  parts_at_fault (check_value type field j names) shaped e = cc
  parts_at_fault (list form after limit) shaped e = cc

  other : (r : Request) (b : Bool) (w : Refusal) → (w ≡ why.Bundle f → ⊥) → when b w ≡ Some (refused (why.Bundle f)) → IsFaulty ds m r f
  other r b w never e = absurd (never (held b w (why.Bundle f) e).0)

  -- a request that is refused for a bundle's fault has it
  pub at_fault : (r : Request) → refusal ds m r ≡ Some (refused (why.Bundle f)) → IsFaulty ds m r f
  at_fault r = said (IsFaulty ds m r f) (refused (why.Bundle f))
      (when (is_too_long r) why.LineTooLong ∷ when (is_no_json r) why.NotJson ∷ when (is_misshapen_line ds r) why.Shape ∷ when (lacks_form ds r) why.UnknownForm
      ∷ value_fault ds r ∷ part_fault ds m r ∷ when (lacks_record m r) why.NoRecord ∷ when (lacks_group ds r) why.UnknownGroup ∷ when (lacks_field ds m r) why.NoSuchField ∷ []) (
        other r (is_too_long r) why.LineTooLong (λ s. cc),
        λ n1. (
          other r (is_no_json r) why.NotJson (λ s. cc),
          λ n2. (
            other r (is_misshapen_line ds r) why.Shape (λ s. cc),
            λ shaped. (
              other r (lacks_form ds r) why.UnknownForm (λ s. cc),
              λ n4. (
                value_at_fault r,
                λ n5. (
                  parts_at_fault r (not_held (is_misshapen_line ds r) why.Shape shaped),
                  λ n6. (
                    other r (lacks_record m r) why.NoRecord (λ s. cc),
                    λ n7. (
                      other r (lacks_group ds r) why.UnknownGroup (λ s. cc),
                      λ n8. (other r (lacks_field ds m r) why.NoSuchField (λ s. cc), λ n9. tt),
                    ),
                  ),
                ),
              ),
            ),
          ),
        ),
      )
