-- What a request's refusal says of the request.
use Rattle.std.proofs.Common.{◌≡◌, ◌⊎◌, inl, inr, ℕ, List, [], ◌∷◌, Bool, true, false, Option, Some, None, option_map, option_and_then, Result, Ok, Err, refl, subst}
use Rattle.std.specs.Result.{result_err, result_map_both}
use Rattle.fv_declare_schema.specs.Declarations.{Declarations}
use Rattle.fv_engine_command.specs.Commands.{Part, Request, too_long, not_json, shape, alone, batch, get, check, check_field, check_value, list}
use Rattle.fv_engine_machine.specs.Refusals.{refusal, when, first_of, is_too_long, is_no_json, is_misshapen_line, lacks_form, value_fault, part_fault, part_refusal, lacks_record, lacks_group, lacks_field, made, told_fault}
use Rattle.fv_engine_pending.specs.Parts.{part_made, parts_made, and_then}
use Rattle.fv_engine_pending.specs.declared.fault.PartFault.{PartFault}
use Rattle.fv_engine_reply.specs.Answers.{Answer, refused, part_refused}
use Rattle.fv_engine_reply.specs.declared.answer.Refusal.{Refusal}
use Rattle.fv_engine_reply.specs.declared.answer.Refusal.TheVariants as why
use Rattle.fv_model.specs.Reading.{value_read}
use Rattle.fv_model.specs.declared.fault.BundleFault.{BundleFault}
use Rattle.fv_bundle.specs.Types.{TypeUse}
use Rattle.fv_store.specs.Records.{Records}
use Rattle.fv_validate.specs.Values.{field_use}

-- ---- the first of several that is told

-- of each of these, what it would say if it were told, those before it not being there
abbrev pub EachSays : Type 0 → Answer → List (Option Answer) → Type 0
EachSays P a [] = Unit {0}
EachSays P a (o ∷ os) = (o ≡ Some a → P) × (o ≡ None → EachSays P a os)

pub said : (P : Type 0) (a : Answer) (os : List (Option Answer)) → EachSays P a os → first_of os ≡ Some a → P
said P a [] each e = cc
said P a (Some b ∷ os) each e = each.0 e
said P a (None ∷ os) each e = said P a os (each.1 refl) e

pub held : (b : Bool) (w v : Refusal) → when b w ≡ Some (refused v) → (w ≡ v) × (b ≡ true)
held true w v e = let same : w ≡ v = cc in (same, refl)
held false w v e = cc

pub not_held : (b : Bool) (w : Refusal) → when b w ≡ None → b ≡ false
not_held true w e = cc
not_held false w e = refl

-- ---- a value, and parts

value_said : (ds : Declarations) (r : Request) (v : Refusal) → value_fault ds r ≡ Some (refused v) → (f : BundleFault) × (why.Bundle f ≡ v)
value_said ds (check_value type field j names) v e = of_use (field_use ds.types type field) e
  where
    of_fault : (o : Option BundleFault) → option_map (λ f. refused (why.Bundle f)) o ≡ Some (refused v) → (f : BundleFault) × (why.Bundle f ≡ v)
    of_fault None e = cc
    of_fault (Some f) e = let same : why.Bundle f ≡ v = cc in (f, same)

    of_use : (o : Option TypeUse) → option_and_then (λ u. option_map (λ f. refused (why.Bundle f)) (result_err (value_read u j))) o ≡ Some (refused v)
        → (f : BundleFault) × (why.Bundle f ≡ v)
    of_use None e = cc
    of_use (Some u) e = of_fault (result_err (value_read u j)) e
value_said ds too_long v e = cc
value_said ds not_json v e = cc
value_said ds shape v e = cc
value_said ds (alone p) v e = cc
value_said ds (batch ps) v e = cc
value_said ds (get id) v e = cc
value_said ds (check id names) v e = cc
value_said ds (check_field id object field names) v e = cc
value_said ds (list form after limit) v e = cc

-- a part by itself, which can't be made for the fault that the refusal tells
pub record IsPartFault (ds : Declarations) (m : Records) (r : Request) (v : Refusal) : Type 0 where
  pub part : Part
  pub fault : PartFault
  pub alone_it_is : r ≡ alone part
  pub failed : part_made ds.types ds.forms part m ≡ Err fault
  pub told : part_refusal fault ≡ v

parts_said : (ds : Declarations) (m : Records) (r : Request) (v : Refusal) → part_fault ds m r ≡ Some (refused v) → IsPartFault ds m r v
parts_said ds m (alone p) v e = go (part_made ds.types ds.forms p m) refl e
  where
    go : (res : Result Records PartFault) → part_made ds.types ds.forms p m ≡ res
        → told_fault (λ n why. refused why) (and_then (parts_made ds.types ds.forms 1 []) (result_map_both (λ x. x) (λ e. (0, e)) res)) ≡ Some (refused v)
        → IsPartFault ds m (alone p) v
    go (Ok left) is told = cc
    go (Err fault) is told = let same : part_refusal fault ≡ v = cc in record { part = p; fault = fault; alone_it_is = refl; failed = is; told = same }
parts_said ds m (batch ps) v e = go (made ds ps m) e
  where
    go : (res : Result Records (ℕ × PartFault)) → told_fault part_refused res ≡ Some (refused v) → IsPartFault ds m (batch ps) v
    go (Ok left) told = cc
    go (Err fault) told = cc
parts_said ds m too_long v e = cc
parts_said ds m not_json v e = cc
parts_said ds m shape v e = cc
parts_said ds m (get id) v e = cc
parts_said ds m (check id names) v e = cc
parts_said ds m (check_field id object field names) v e = cc
parts_said ds m (check_value type field j names) v e = cc
parts_said ds m (list form after limit) v e = cc

-- ---- the cause of a refusal

module _ (ds : Declarations) (m : Records) (r : Request) where
  -- the condition of a refusal, of a request that isn't a part by itself; nothing is said of a fault of a bundle
  abbrev pub Says : Refusal → Type 0
  Says why.LineTooLong = is_too_long r ≡ true
  Says why.NotJson = is_no_json r ≡ true
  Says why.Shape = is_misshapen_line ds r ≡ true
  Says why.UnknownForm = lacks_form ds r ≡ true
  Says why.NoRecord = lacks_record m r ≡ true
  Says why.UnknownGroup = lacks_group ds r ≡ true
  Says why.NoSuchField = (lacks_record m r ≡ false) × (lacks_field ds m r ≡ true)
  Says _ = Unit {0}

  -- the condition of a refusal holds, or a part by itself can't be made for the fault that it tells
  pub cause : (v : Refusal) → refusal ds m r ≡ Some (refused v) → Says v ⊎ IsPartFault ds m r v
  cause v = said (Says v ⊎ IsPartFault ds m r v) (refused v)
      (when (is_too_long r) why.LineTooLong ∷ when (is_no_json r) why.NotJson ∷ when (is_misshapen_line ds r) why.Shape ∷ when (lacks_form ds r) why.UnknownForm
      ∷ value_fault ds r ∷ part_fault ds m r ∷ when (lacks_record m r) why.NoRecord ∷ when (lacks_group ds r) why.UnknownGroup ∷ when (lacks_field ds m r) why.NoSuchField ∷ []) (
        plain (is_too_long r) why.LineTooLong (λ b. b),
        λ n1. (
          plain (is_no_json r) why.NotJson (λ b. b),
          λ n2. (
            plain (is_misshapen_line ds r) why.Shape (λ b. b),
            λ n3. (
              plain (lacks_form ds r) why.UnknownForm (λ b. b),
              λ n4. (
                (λ e. let f = value_said ds r v e in inl (subst Says f.1 tt)),
                λ n5. (
                  (λ e. inr (parts_said ds m r v e)),
                  λ n6. (
                    plain (lacks_record m r) why.NoRecord (λ b. b),
                    λ known. (
                      plain (lacks_group ds r) why.UnknownGroup (λ b. b),
                      λ n7.
                          (plain (lacks_field ds m r) why.NoSuchField (λ b. (not_held (lacks_record m r) why.NoRecord known, b)), λ n8. tt),
                    ),
                  ),
                ),
              ),
            ),
          ),
        ),
      )
    where
      plain : (b : Bool) (w : Refusal) → (b ≡ true → Says w) → when b w ≡ Some (refused v) → Says v ⊎ IsPartFault ds m r v
      plain b w says e = let h = held b w v e in inl (subst Says h.0 (says h.1))
