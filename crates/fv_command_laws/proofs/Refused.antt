-- A request that is refused for what isn't there names it at a member.
use Rattle.std.proofs.Common.{◌≡◌, ◌⊎◌, inl, inr, ℕ, ◌+◌, ◌<◌, List, [], ◌∷◌, length, Bool, true, false, cond, not, nat_lt, if◌then◌else◌, Option, Some, None, is_some, option_map, option_and_then, Result, Ok, Err, bytes_eq, position, refl, sym, ap, subst, ◌∙◌, arith}
use Rattle.std.specs.List.{position_or_len}
use Rattle.std.specs.Option.{option_map_or}
use Rattle.std.proofs.lemmas.Bool.{lt-ltb}
use Rattle.serde_json.specs.Data as json
use Rattle.fv_bundle.specs.Bundles.{Bundled, Thing}
use Rattle.fv_command_laws.proofs.Causes.{Says, IsPartFault, cause}
use Rattle.fv_command_fault.specs.Named.{id_of, names_of, IsStored}
use Rattle.fv_command_fault.specs.Whereabouts.{LacksForm, LacksRecord, IsAt}
use Rattle.fv_command_fault.specs.declared.place.Absence.{Absence}
use Rattle.fv_command_fault.specs.declared.place.Absence.TheVariants as absence
use Rattle.fv_command_fault.specs.declared.place.CommandPlace.{CommandPlace}
use Rattle.fv_command_fault.specs.declared.place.CommandPlace.TheVariants.{Form, Id, Group, «Type», Object, Field}
use Rattle.fv_datum.specs.Lookup.{at_name}
use Rattle.fv_declare_schema.specs.Declarations.{Declarations}
use Rattle.fv_command_laws.specs.Absent.{refusal_of, IsSomewhere, IsPart}
use Rattle.fv_engine_command.specs.Commands.{Part, put, set, remove, Request, too_long, not_json, shape, alone, batch, get, check, check_field, check_value, list}
use Rattle.fv_engine_machine.specs.Refusals.{refusal, when, first_of, is_misshapen_line, lacks_form, part_fault, part_refusal, lacks_record, lacks_group, lacks_field}
use Rattle.fv_engine_pending.specs.Parts.{part_made, kept_as, bundle_under}
use Rattle.fv_engine_pending.specs.declared.fault.PartFault.{PartFault}
use Rattle.fv_engine_pending.specs.declared.fault.PartFault.TheVariants as part
use Rattle.fv_engine_reply.specs.Answers.{Answer, refused, part_refused}
use Rattle.fv_engine_reply.specs.declared.answer.Refusal.{Refusal}
use Rattle.fv_engine_reply.specs.declared.answer.Refusal.TheVariants as why
use Rattle.fv_first.proofs.Laws.{where_told}
use Rattle.fv_declare_schema.specs.Groups.{Groups, group_number}
use Rattle.fv_declare_schema.specs.Judged.{unknown_group_in}
use Rattle.fv_declare_schema.specs.Whereabouts.{first_unknown}
use Rattle.fv_model.specs.Setting.{bundle_set}
use Rattle.fv_model.specs.declared.fault.BundleFault.{BundleFault}
use Rattle.fv_bundle.specs.Types.{Declared, DeclaredFields, TypeUse}
use Rattle.fv_store.specs.Records.{Kept, Records, without_record}
use Rattle.fv_validate.specs.Values.{field_use}
use Rattle.fv_walk.specs.Properties.{field_number}

none_of : {X : Type 0} (o : Option X) → not (is_some o) ≡ true → o ≡ None
none_of None e = refl
none_of (Some x) e = cc

some_of : {X : Type 0} (o : Option X) → not (is_some o) ≡ false → (x : X) × (o ≡ Some x)
some_of None e = cc
some_of (Some x) e = (x, refl)

there_of : {X : Type 0} (o : Option X) → is_some o ≡ true → (x : X) × (o ≡ Some x)
there_of None e = cc
there_of (Some x) e = (x, refl)

-- ---- where

form_there : (ds : Declarations) (r : Request) → lacks_form ds r ≡ true → LacksForm ds r
form_there ds (list form after limit) h = (form, refl, none_of (at_name form ds.forms) h)
form_there ds too_long h = cc
form_there ds not_json h = cc
form_there ds shape h = cc
form_there ds (alone p) h = cc
form_there ds (batch ps) h = cc
form_there ds (get id) h = cc
form_there ds (check id names) h = cc
form_there ds (check_field id object field names) h = cc
form_there ds (check_value type field j names) h = cc

record_there : (m : Records) (r : Request) → lacks_record m r ≡ true → LacksRecord m r
record_there m (get id) h = (id, refl, none_of (m id) h)
record_there m (check id names) h = (id, refl, none_of (m id) h)
record_there m (check_field id object field names) h = (id, refl, none_of (m id) h)
record_there m too_long h = cc
record_there m not_json h = cc
record_there m shape h = cc
record_there m (alone p) h = cc
record_there m (batch ps) h = cc
record_there m (check_value type field j names) h = cc
record_there m (list form after limit) h = cc

first_there : (gs : Groups) (names : List (List ℕ)) → unknown_group_in gs names ≡ true → (n : ℕ) × (first_unknown gs names ≡ Some n)
first_there gs names h = there_of (first_unknown gs names) (where_told (λ name. not (is_some (group_number gs name))) names ∙ h)

group_there : (ds : Declarations) (r : Request) → lacks_group ds r ≡ true → (n : ℕ) × (first_unknown ds.groups (names_of r) ≡ Some n)
group_there ds (check id names) h = first_there ds.groups names h
group_there ds (check_field id object field names) h = first_there ds.groups names h
group_there ds (check_value type field j names) h = first_there ds.groups names h
group_there ds too_long h = cc
group_there ds not_json h = cc
group_there ds shape h = cc
group_there ds (alone p) h = cc
group_there ds (batch ps) h = cc
group_there ds (get id) h = cc
group_there ds (list form after limit) h = cc

-- ---- fields

module _ (name : List ℕ) where
  before : (es : DeclaredFields) (u : TypeUse) → at_name name es ≡ Some u → position_or_len (λ e. bytes_eq name e.0) es < length es
  before [] u e = let never : None ≡ Some u = e in absurd cc
  before (x ∷ es) u e = go (bytes_eq name x.0) e (before es u)
    where
      go : (b : Bool) → cond b (Some x.1) (at_name name es) ≡ Some u → (at_name name es ≡ Some u → position_or_len (λ e. bytes_eq name e.0) es < length es)
          → cond (not b) (1 + position_or_len (λ e. bytes_eq name e.0) es) 0 < length (x ∷ es)
      go true e ih = omega arith
      go false e ih = let rest = ih e in omega (arith, rest)

  -- a field without a number isn't there
  unnumbered : (ts : Declared) (type : List ℕ) → field_number ts type name ≡ None → field_use ts type name ≡ None
  unnumbered ts type none = in_type (at_name type ts) none
    where
      in_fields : (fields : DeclaredFields) (u : Option TypeUse) → at_name name fields ≡ u → position (λ f. bytes_eq name f.0) fields ≡ None → u ≡ None
      in_fields fields None is n = refl
      in_fields fields (Some u) is n =
          let place = position_or_len (λ (e : List ℕ × TypeUse). bytes_eq name e.0) fields in
          let less : nat_lt place (length fields) ≡ true = lt-ltb place (length fields) (before fields u is) in
          let never : Some place ≡ None = ap (λ (b : Bool). cond b (Some place) None) (sym less) ∙ n in
          cc

      in_type : (o : Option DeclaredFields) → option_and_then (position (λ f. bytes_eq name f.0)) o ≡ None → option_and_then (at_name name) o ≡ None
      in_type None n = refl
      in_type (Some fields) n = in_fields fields (at_name name fields) refl n

-- of a checkfield
object_there : (ds : Declarations) (m : Records) (id object field : List ℕ) (names : List (List ℕ)) (k : Kept) → m id ≡ Some k
    → not (is_some (option_and_then (λ (o : Thing). field_number ds.types o.type_name field) (at_name object k.bundle.objects))) ≡ true
    → IsSomewhere ds m (check_field id object field names) absence.Field
object_there ds m id object field names k is h = go (at_name object k.bundle.objects) refl h
  where
    go : (o : Option Thing) → at_name object k.bundle.objects ≡ o → not (is_some (option_and_then (λ (t : Thing). field_number ds.types t.type_name field) o)) ≡ true
        → IsSomewhere ds m (check_field id object field names) absence.Field
    go None at n = (Object, (k, is, at))
    go (Some t) at n = (Field, (k, t, is, at, unnumbered field ds.types t.type_name (none_of (field_number ds.types t.type_name field) n)))

-- of a checkvalue
type_there : (ds : Declarations) (m : Records) (type field : List ℕ) (j : json.Data) (names : List (List ℕ)) → not (is_some (field_use ds.types type field)) ≡ true
    → IsSomewhere ds m (check_value type field j names) absence.Field
type_there ds m type field j names h = go (at_name type ds.types) refl h
  where
    go : (o : Option DeclaredFields) → at_name type ds.types ≡ o → not (is_some (option_and_then (at_name field) o)) ≡ true → IsSomewhere ds m (check_value type field j names) absence.Field
    go None at n = («Type», at)
    go (Some fields) at n = (Field, (fields, at, none_of (at_name field fields) n))

field_there : (ds : Declarations) (m : Records) (r : Request) → lacks_record m r ≡ false → lacks_field ds m r ≡ true → IsSomewhere ds m r absence.Field
field_there ds m (check_field id object field names) known h =
    let kept = some_of (m id) known in
    object_there ds m id object field names kept.0 kept.1
    (ap (λ o. not (is_some (option_and_then (λ (o : Thing). field_number ds.types o.type_name field) (option_and_then (λ k. at_name object k.bundle.objects) o)))) (sym kept.1) ∙ h)
field_there ds m (check_value type field j names) known h = type_there ds m type field j names h
field_there ds m too_long known h = cc
field_there ds m not_json known h = cc
field_there ds m shape known h = cc
field_there ds m (alone p) known h = cc
field_there ds m (batch ps) known h = cc
field_there ds m (get id) known h = cc
field_there ds m (check id names) known h = cc
field_there ds m (list form after limit) known h = cc

lacking : (ds : Declarations) (m : Records) (r : Request) (w : Absence) → Says ds m r (refusal_of w) → IsSomewhere ds m r w
lacking ds m r absence.Form h = (Form, form_there ds r h)
lacking ds m r absence.Record h = (Id, record_there m r h)
lacking ds m r absence.Group h = let found = group_there ds r h in (Group found.0, found.1)
lacking ds m r absence.Field h = field_there ds m r h.0 h.1

-- ---- parts

unknown_form : (ds : Declarations) (m : Records) (id form : List ℕ) (j : json.Data) (w : Absence) → at_name form ds.forms ≡ None → why.UnknownForm ≡ refusal_of w → IsPart ds m (put id form j) w
unknown_form ds m id form j absence.Form is same = record { place = Form; there = (form, refl, is); stored = tt }
unknown_form ds m id form j absence.Record is same = cc
unknown_form ds m id form j absence.Group is same = cc
unknown_form ds m id form j absence.Field is same = cc

no_record : (ds : Declarations) (m : Records) (p : Part) (id : List ℕ) (w : Absence) → id_of (alone p) ≡ Some id → m id ≡ None → IsStored m (alone p) None → why.NoRecord ≡ refusal_of w → IsPart ds m p w
no_record ds m p id absence.Form of_id is none same = cc
no_record ds m p id absence.Record of_id is none same = record { place = Id; there = (id, of_id, is); stored = none }
no_record ds m p id absence.Group of_id is none same = cc
no_record ds m p id absence.Field of_id is none same = cc

bundle_other : (f : BundleFault) (w : Absence) → why.Bundle f ≡ refusal_of w → ⊥
bundle_other f absence.Form e = cc
bundle_other f absence.Record e = cc
bundle_other f absence.Group e = cc
bundle_other f absence.Field e = cc

-- a bundle's fault isn't one for what isn't there
kept_other : (id form : List ℕ) (m : Records) (b : Result Bundled BundleFault) (e : PartFault) (w : Absence) → kept_as id form m b ≡ Err e → part_refusal e ≡ refusal_of w → ⊥
kept_other id form m (Ok b) e w is same = cc
kept_other id form m (Err f) e w is same = let fault : part.Bundle f ≡ e = cc in bundle_other f w (ap part_refusal fault ∙ same)

pub part_there : (ds : Declarations) (m : Records) (p : Part) (e : PartFault) (w : Absence) → part_made ds.types ds.forms p m ≡ Err e → part_refusal e ≡ refusal_of w → IsPart ds m p w
part_there ds m (put id form j) e w is same = go (at_name form ds.forms) refl is
  where
    go : (o : Option (List ℕ)) → at_name form ds.forms ≡ o → (if is_some o then kept_as id form m (bundle_under ds.types ds.forms form j) else Err part.UnknownForm) ≡ Err e → IsPart ds m (put id form j) w
    go (Some root) at got = absurd (kept_other id form m (bundle_under ds.types ds.forms form j) e w got same)
    go None at got = let fault : part.UnknownForm ≡ e = cc in unknown_form ds m id form j w at (ap part_refusal fault ∙ same)
part_there ds m (set id object field j) e w is same = go (m id) refl is
  where
    go : (o : Option Kept) → m id ≡ o → option_map_or (λ k. kept_as id k.form m (bundle_set ds.types k.bundle object field j)) o (Err part.NoRecord) ≡ Err e → IsPart ds m (set id object field j) w
    go (Some k) at got = absurd (kept_other id k.form m (bundle_set ds.types k.bundle object field j) e w got same)
    go None at got =
        let fault : part.NoRecord ≡ e = cc in
        no_record ds m (set id object field j) id w refl at (ap (option_map (λ k. k.bundle)) at) (ap part_refusal fault ∙ same)
part_there ds m (remove id) e w is same = go (m id) refl is
  where
    go : (o : Option Kept) → m id ≡ o → option_map_or (λ k. Ok (without_record id m)) o (Err part.NoRecord) ≡ Err e → IsPart ds m (remove id) w
    go (Some k) at got = cc
    go None at got =
        let fault : part.NoRecord ≡ e = cc in
        no_record ds m (remove id) id w refl at (ap (option_map (λ k. k.bundle)) at) (ap part_refusal fault ∙ same)

-- a request that is refused for what isn't there names it at a member
pub refused_there : (ds : Declarations) (m : Records) (r : Request) (w : Absence) → refusal ds m r ≡ Some (refused (refusal_of w)) → (p : CommandPlace) × IsAt ds m r w p
refused_there ds m r w e = go (cause ds m r (refusal_of w) e)
  where
    go : Says ds m r (refusal_of w) ⊎ IsPartFault ds m r (refusal_of w) → (p : CommandPlace) × IsAt ds m r w p
    go (inl h) = lacking ds m r w h
    go (inr h) = let found = part_there ds m h.part h.fault w h.failed h.told in (found.place, subst (λ (q : Request). IsAt ds m q w found.place) (sym h.alone_it_is) found.there)

-- a batch that is refused at a part: its bundles are of their form, and the part can't be made
pub batch_cause : (ds : Declarations) (m : Records) (ps : List Part) (n : ℕ) (v : Refusal) → refusal ds m (batch ps) ≡ Some (part_refused n v)
    → (is_misshapen_line ds (batch ps) ≡ false) × (part_fault ds m (batch ps) ≡ Some (part_refused n v))
batch_cause ds m ps n v e = go (is_misshapen_line ds (batch ps)) (part_fault ds m (batch ps)) e
  where
    go : (b : Bool) (o : Option Answer) → first_of (when b why.Shape ∷ None ∷ None ∷ o ∷ None ∷ None ∷ None ∷ []) ≡ Some (part_refused n v) → (b ≡ false) × (o ≡ Some (part_refused n v))
    go true o e = cc
    go false (Some a) e = (refl, e)
    go false None e = cc
