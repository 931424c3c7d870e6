-- A request is refused for its shape exactly where it isn't of a command's form.
use Rattle.std.proofs.Common.{◌⊎◌, inl, inr, ◌≡◌, ◌↔◌, ℕ, List, [], ◌∷◌, Bool, true, false, not, ◌&&◌, ◌||◌, if◌then◌else◌, Option, Some, None, is_some, Err, refl, sym, ap, ap₂, ◌∙◌}
use Rattle.std.specs.List.{list_all}
use Rattle.std.specs.Option.{option_map_or}
use Rattle.serde_json.specs.Data as json
use Rattle.fv_bundle.specs.Bundles.{Bundled}
use Rattle.fv_command_laws.proofs.Causes.{Says, IsPartFault, cause}
use Rattle.fv_datum.specs.Lookup.{at_name}
use Rattle.fv_datum.specs.Outcomes.{first, unless_fault}
use Rattle.fv_declare_schema.specs.Declarations.{Declarations}
use Rattle.fv_engine_command.specs.Commands as command
use Rattle.fv_engine_machine.specs.Refusals.{refusal, is_misshapen_line, part_refusal}
use Rattle.fv_engine_pending.specs.Parts as parts
use Rattle.fv_engine_pending.specs.declared.fault.PartFault.{PartFault}
use Rattle.fv_engine_pending.specs.declared.fault.PartFault.TheVariants as part
use Rattle.fv_engine_reply.specs.Answers.{refused}
use Rattle.fv_engine_reply.specs.declared.answer.Refusal.TheVariants as why
use Rattle.fv_form.specs.Commands.{is_drafted, is_shaped, is_command}
use Rattle.fv_model.specs.Draft.{BundleDraft, bundle_draft_of}
use Rattle.fv_model.specs.Reading.{bundle_conditions, bundle_of, bundle_read}
use Rattle.fv_model.specs.declared.fault.BundleFault.{BundleFault}
use Rattle.fv_model.specs.declared.fault.BundleFault.TheVariants as fault
use Rattle.fv_bundle.specs.Types.{Declared}
use Rattle.fv_store.specs.Records.{Records}

-- ---- a bundle is of the form of one exactly where it isn't refused for its form

left_false : (a b : Bool) → (not a && b) ≡ true → a ≡ false
left_false true b both = cc
left_false false b both = refl

right_true : (a b : Bool) → (not a && b) ≡ true → b ≡ true
right_true true b both = cc
right_true false b both = both

module _ (b : Bundled) where
  pick : (x : Bool) (f : BundleFault) (o : Option BundleFault) → parts.is_misread (Err f) ≡ false → parts.is_misread (unless_fault o b) ≡ false
      → parts.is_misread (unless_fault (if x then Some f else o) b) ≡ false
  pick true f o here later = here
  pick false f o here later = later

  other_fault : (cs : List (Bool × BundleFault)) → list_all (λ c. not (parts.is_misread (Err c.1))) cs ≡ true → parts.is_misread (unless_fault (first cs) b) ≡ false
  other_fault [] all = refl
  other_fault (c ∷ cs) all =
      pick c.0 c.1 (first cs) (left_false (parts.is_misread (Err c.1)) (list_all (λ c. not (parts.is_misread (Err c.1))) cs) all)
      (other_fault cs (right_true (parts.is_misread (Err c.1)) (list_all (λ c. not (parts.is_misread (Err c.1))) cs) all))

misread_where : (types : Declared) (root : Option (List ℕ)) (j : json.Data) → parts.is_misread (bundle_read types root j) ≡ not (is_some (bundle_draft_of j))
misread_where types root j = go (bundle_draft_of j)
  where
    go : (o : Option BundleDraft) → parts.is_misread (option_map_or (λ d. unless_fault (first (bundle_conditions types root d)) (bundle_of types d)) o (Err fault.Shape)) ≡ not (is_some o)
    go None = refl
    go (Some d) = other_fault (bundle_of types d) (bundle_conditions types root d) refl

-- ---- the machine's condition

module _ (ds : Declarations) where
  part_where : (p : command.Part) → parts.is_misshapen ds.types ds.forms p ≡ not (is_drafted p)
  part_where (command.put id form j) = misread_where ds.types (at_name form ds.forms) j
  part_where (command.set id object field j) = refl
  part_where (command.remove id) = refl

  either : (a b : Bool) → (not a || not b) ≡ not (a && b)
  either true b = refl
  either false b = refl

  parts_where : (ps : List command.Part) → parts.are_misshapen ds.types ds.forms ps ≡ not (list_all is_drafted ps)
  parts_where [] = refl
  parts_where (p ∷ ps) = ap₂ (λ x y. x || y) (part_where p) (parts_where ps) ∙ either (is_drafted p) (list_all is_drafted ps)

  or_nothing : (b : Bool) → (b || false) ≡ b
  or_nothing true = refl
  or_nothing false = refl

  shape_where : (r : command.Request) → is_misshapen_line ds r ≡ not (is_shaped r)
  shape_where command.too_long = refl
  shape_where command.not_json = refl
  shape_where command.shape = refl
  shape_where (command.alone p) = or_nothing (parts.is_misshapen ds.types ds.forms p) ∙ part_where p
  shape_where (command.batch ps) = parts_where ps
  shape_where (command.get id) = refl
  shape_where (command.check id names) = refl
  shape_where (command.check_field id object field names) = refl
  shape_where (command.check_value type field j names) = refl
  shape_where (command.list form after limit) = refl

-- ---- the refusal

part_other : (f : PartFault) → part_refusal f ≡ why.Shape → ⊥
part_other part.UnknownForm e = cc
part_other (part.Bundle f) e = cc
part_other part.NoRecord e = cc
part_other part.Memory e = cc

shape_of : (ds : Declarations) (m : Records) (r : command.Request) → refusal ds m r ≡ Some (refused why.Shape) → is_misshapen_line ds r ≡ true
shape_of ds m r e = go (cause ds m r why.Shape e)
  where
    go : Says ds m r why.Shape ⊎ IsPartFault ds m r why.Shape → is_misshapen_line ds r ≡ true
    go (inl h) = h
    go (inr h) = absurd (part_other h.fault h.told)

shape_told : (ds : Declarations) (m : Records) (r : command.Request) → is_misshapen_line ds r ≡ true → refusal ds m r ≡ Some (refused why.Shape)
shape_told ds m command.too_long e = cc
shape_told ds m command.not_json e = cc
shape_told ds m command.shape e = refl
shape_told ds m (command.alone p) e = rw e refl
shape_told ds m (command.batch ps) e = rw e refl
shape_told ds m (command.get id) e = cc
shape_told ds m (command.check id names) e = cc
shape_told ds m (command.check_field id object field names) e = cc
shape_told ds m (command.check_value type field j names) e = cc
shape_told ds m (command.list form after limit) e = cc

-- ---- JSON that asks for records

turned : (a b : Bool) → a ≡ not b → (b ≡ false) ↔ (a ≡ true)
turned a true e = (λ h. cc, λ h. let never : true ≡ false = sym h ∙ e in cc)
turned a false e = (λ h. e, λ h. refl)

pub misfits_refused : (ds : Declarations) (m : Records) (j : json.Data) (r : command.Request) → command.asks_json (Some j) ≡ command.of_records r
    → (is_command j ≡ false) ↔ (refusal ds m r ≡ Some (refused why.Shape))
misfits_refused ds m j r asked = go (command.redeclare_of j) asked
  where
    go : (o : Option (List ℕ)) → option_map_or command.redeclare o (command.of_records (command.of_json (Some j))) ≡ command.of_records r
        → ((is_shaped (command.of_json (Some j)) || is_some o) ≡ false) ↔ (refusal ds m r ≡ Some (refused why.Shape))
    go (Some text) asks = cc
    go None asks =
        let same : command.of_json (Some j) ≡ r = cc in
        let form : (is_shaped (command.of_json (Some j)) || false) ≡ is_shaped r = or_nothing ds (is_shaped (command.of_json (Some j))) ∙ ap is_shaped same in
        let shaped = turned (is_misshapen_line ds r) (is_shaped r) (shape_where ds r) in
        (λ e. shape_told ds m r (shaped.0 (sym form ∙ e)), λ e. form ∙ shaped.1 (shape_of ds m r e))
