-- What is written of a bundle that was read again, under whatever types, is what was written of it before.
use Rattle.std.proofs.Common.{◌≡◌, ◌≢◌, ℕ, List, [], ◌∷◌, map, codes, Bool, true, false, not, cond, Option, Some, None, Result, Ok, Err, IfOk, bytes_eq, is_some, inl, inr, refl, sym, ap, subst, ◌∙◌, true≢false}
use Rattle.std.specs.List.{AllByRecursion}
use Rattle.std.specs.Map.{keys_of}
use Rattle.std.proofs.lemmas.Slice.Eq.{bytes_eq-Decides}
use Rattle.serde_json.specs.Data as json
use Rattle.serde_json.specs.Find.{get_member}
use Rattle.serde_json.proofs.Views.{get_member-put}
use Rattle.fv_datum.specs.Data.{Data}
use Rattle.fv_datum.specs.Json.{is_null_json}
use Rattle.fv_datum.specs.Lookup.{at_name}
use Rattle.fv_datum.specs.Members.{pairs}
use Rattle.fv_datum.specs.Outcomes.{Gives}
use Rattle.fv_datum.specs.Written.{is_null, written}
use Rattle.fv_bundle.specs.Flaws.{undeclared, misfits}
use Rattle.fv_bundle.specs.Spelled.{datum_of}
use Rattle.fv_bundle.specs.Types.{TypeUse, DeclaredFields, Declared, AreApart, FieldsApart}
use Rattle.fv_bundle.proofs.Again.{some_read, written_again}
use Rattle.fv_bundle.proofs.Back.{not_null, fits_writable}
use Rattle.fv_datum.proofs.Bools.{or_left, or_right}
use Rattle.fv_datum.proofs.Members.{AreAscending, ascending_put, same_members, each_found, each_put}
use Rattle.fv_datum.proofs.Apart.{apart-head, apart-tail}
use Rattle.fv_datum.proofs.Lookups.{found_every}
use Rattle.fv_datum.proofs.Outcomes.{head_false, unless_none}
use Rattle.fv_datum.proofs.PlainJson.{IsPlain}
use Rattle.fv_bundle.proofs.PlainJson.{fits_flat}
use Rattle.fv_bundle.specs.Bundles.{IsAscending, Thing, Things, Bundled}
use Rattle.fv_model.specs.Draft.{BundleDraft}
use Rattle.fv_model.specs.Reading.{has_flaw, datum_at, given_field, fields_of, object_of, bundle_of, bundle_read}
use Rattle.fv_model.specs.Views.{bundle_view}
use Rattle.fv_bundle.specs.WellTyped.{NamesObject, FitsUse, FieldsAre, FitsType, IsWellTyped}
use Rattle.fv_model.specs.Writing.{IsWritten, datum_json, thing_json, bundle_json, named_written, bundle_written}
use Rattle.fv_bundle.specs.declared.bundle.Bundle.{Bundle}
use Rattle.fv_model.specs.declared.fault.BundleFault.{BundleFault}
use Rattle.fv_model.specs.declared.fault.BundleFault.TheVariants.{Memory}
use Rattle.fv_model.proofs.Conditions.{unknown_type, unknown_field, wrong_kind, draft_fault, judged, added, objects_added, flaw_among}
use Rattle.fv_model.proofs.Law.{put_if, added_other, part_for, draft_back, flaw_known}
use Rattle.fv_bundle.proofs.Made.{AreWritten}
use Rattle.fv_model.proofs.Typed.{some_of, chosen, none_at, faultless, read_well_typed}

-- ---- the members that fields are written as

put_unless : (P : json.Data → Type 0) (b : Bool) (k : List ℕ) (d : json.Data) (ms : json.Members) → (b ≡ false → P d) → AllByRecursion (λ m. P m.1) (pairs ms) → AllByRecursion (λ m. P m.1) (pairs (cond b ms (json.put k d ms)))
put_unless P true k d ms p all = all
put_unless P false k d ms p all = each_put P k d ms (p refl) all

-- what holds of each datum that isn't null holds of each member
pub each_added : (P : json.Data → Type 0) (fs : List (List ℕ × Data)) (ms : json.Members) → AllByRecursion (λ f. is_null f.1 ≡ false → P (datum_json f.1)) fs → AllByRecursion (λ m. P m.1) (pairs ms) → AllByRecursion (λ m. P m.1) (pairs (added ms fs))
each_added P [] ms each all = all
each_added P (f ∷ fs) ms each all = each_added P fs _ each.1 (put_unless P (is_null f.1) f.0 (datum_json f.1) ms each.0 all)

ascending_unless : (b : Bool) (k : List ℕ) (d : json.Data) (ms : json.Members) → AreAscending ms → AreAscending (cond b ms (json.put k d ms))
ascending_unless true k d ms h = h
ascending_unless false k d ms h = ascending_put k d ms h

pub ascending_added : (fs : List (List ℕ × Data)) (ms : json.Members) → AreAscending ms → AreAscending (added ms fs)
ascending_added [] ms h = h
ascending_added (f ∷ fs) ms h = ascending_added fs _ (ascending_unless (is_null f.1) f.0 (datum_json f.1) ms h)

-- what is written of a datum, unless it is null
abbrev pub shown : Data → Option json.Data
shown d = cond (is_null d) None (Some (datum_json d))

shown_put : (b : Bool) (q : List ℕ) (d : json.Data) (ms : json.Members) → get_member q ms ≡ None → get_member q (cond b ms (json.put q d ms)) ≡ cond b None (Some d)
shown_put true q d ms none = none
shown_put false q d ms none = get_member-put q d ms

-- the fields that are read have the names of the type's
names_read : (q : List ℕ) (g : json.Members) (ds : DeclaredFields) → AllByRecursion (λ e. e.0 ≢ q) ds → AllByRecursion (λ f. q ≢ f.0) (map (given_field g) ds)
names_read q g [] h = tt
names_read q g (d ∷ ds) h = (λ e. h.0 (sym e), names_read q g ds h.1)

-- at the name of a field, what is written of its datum
pub found_added : (q : List ℕ) (u : TypeUse) (g : json.Members) (ds : DeclaredFields) (ms : json.Members) → AreApart ds → at_name q ds ≡ Some u → get_member q ms ≡ None
    → get_member q (added ms (map (given_field g) ds)) ≡ shown (datum_at u (get_member q g))
found_added q u g [] ms apart is none = cc
found_added q u g (d ∷ ds) ms apart is none = elim (chosen (bytes_eq q d.0) d.1 (at_name q ds) u is) [
  | inl here ↦ (
      let same : q ≡ d.0 = (bytes_eq-Decides q d.0).0 here.0 in
      let x : Data = datum_at d.1 (get_member d.0 g) in
      let now : json.Members = cond (is_null x) ms (json.put d.0 (datum_json x) ms) in
      let kept : get_member d.0 (added now (map (given_field g) ds)) ≡ get_member d.0 now = added_other d.0 (map (given_field g) ds) now (names_read d.0 g ds (apart-head d ds apart)) in
      rw (same, ← here.1) (kept ∙ shown_put (is_null x) d.0 (datum_json x) ms (rw same at none))
      )
  | inr more ↦ (
      let x : Data = datum_at d.1 (get_member d.0 g) in
      let now : json.Members = cond (is_null x) ms (json.put d.0 (datum_json x) ms) in
      let other : q ≢ d.0 = λ same. true≢false (sym ((bytes_eq-Decides q d.0).1 same) ∙ more.0) in
      found_added q u g ds now (apart-tail d ds apart) more.1 (put_if (is_null x) q d.0 (datum_json x) ms other ∙ none)
      )
]

none_named : (q : List ℕ) (ds : DeclaredFields) → at_name q ds ≡ None → AllByRecursion (λ e. e.0 ≢ q) ds
none_named q [] none = tt
none_named q (d ∷ ds) none =
    let parts = head_false (bytes_eq q d.0) d.1 (at_name q ds) none in
    (λ same. true≢false (sym ((bytes_eq-Decides q d.0).1 (sym same)) ∙ parts.0), none_named q ds parts.1)

-- and at another, what was there before
pub other_added : (q : List ℕ) (g : json.Members) (ds : DeclaredFields) (ms : json.Members) → at_name q ds ≡ None → get_member q (added ms (map (given_field g) ds)) ≡ get_member q ms
other_added q g ds ms none = added_other q (map (given_field g) ds) ms (names_read q g ds (none_named q ds none))

-- ---- the fields of one object

-- JSON that can be written again: plain, and not `null`
abbrev pub IsGivenJson : json.Data → Type 0
IsGivenJson j = IsPlain j × (is_null_json j ≡ false)

-- members in order, each so
pub record IsGiven (g : json.Members) : Type 0 where
  pub ordered : AreAscending g
  pub each : AllByRecursion (λ m. IsGivenJson m.1) (pairs g)

datum_again : (u : TypeUse) (j : json.Data) → misfits (Some u) j ≡ false → IsGivenJson j → shown (datum_at u (Some j)) ≡ Some j
datum_again u j fits given =
    let found = some_of (datum_of u j) fits in
    let some : is_null found.0 ≡ false = some_read u j found.0 given.1 found.1 in
    let again : written found.0 ≡ Some j = written_again u j found.0 given.0 found.1 in
    rw (found.1, some, again) refl

found_again : (u : TypeUse) (o : Option json.Data) → ((j : json.Data) → o ≡ Some j → (misfits (Some u) j ≡ false) × IsGivenJson j) → shown (datum_at u o) ≡ o
found_again u None h = refl
found_again u (Some j) h = let it = h j refl in datum_again u j it.0 it.1

none_found : (o : Option json.Data) → ((j : json.Data) → o ≡ Some j → ⊥) → None ≡ o
none_found None h = refl
none_found (Some j) h = absurd (h j refl)

same_found : (ds : DeclaredFields) (g : json.Members) (q : List ℕ) (o : Option TypeUse) → at_name q ds ≡ o → AreApart ds → IsGiven g → flaw_among undeclared ds (pairs g) ≡ false → flaw_among misfits ds (pairs g) ≡ false
    → get_member q (added json.no_members (map (given_field g) ds)) ≡ get_member q g
same_found ds g q (Some u) is apart given declared fit =
    found_added q u g ds json.no_members apart is refl
    ∙ found_again u (get_member q g) (λ j found. (rw is at (none_at (λ m. misfits (at_name m.0 ds) m.1) q g j found fit), each_found IsGivenJson q g j given.each found))
same_found ds g q None is apart given declared fit =
    other_added q g ds json.no_members is
    ∙ none_found (get_member q g) (λ j found. true≢false (rw is at (none_at (λ m. undeclared (at_name m.0 ds) m.1) q g j found declared)))

-- where each given field is declared, and of its kind, the fields that are read are written as they were given
pub fields_again : (ds : DeclaredFields) (g : json.Members) → AreApart ds → IsGiven g → flaw_among undeclared ds (pairs g) ≡ false → flaw_among misfits ds (pairs g) ≡ false → added json.no_members (map (given_field g) ds) ≡ g
fields_again ds g apart given declared fit =
    same_members (added json.no_members (map (given_field g) ds)) g (ascending_added (map (given_field g) ds) json.no_members tt) given.ordered (λ q. same_found ds g q (at_name q ds) refl apart given declared fit)

field_given : (os : Things) (u : TypeUse) (d : Data) → FitsUse os u d → is_null d ≡ false → IsGivenJson (datum_json d)
field_given os u d fits some = ((fits_flat (NamesObject os) u d fits).0, not_null d some (fits_writable (NamesObject os) u d fits))

each_given : (os : Things) (ds : DeclaredFields) (fs : List (List ℕ × Data)) → FieldsAre (NamesObject os) ds fs → AllByRecursion (λ f. is_null f.1 ≡ false → IsGivenJson (datum_json f.1)) fs
each_given os [] [] fit = tt
each_given os (d ∷ ds) (f ∷ fs) fit = (field_given os d.1 f.1 fit.0.1, each_given os ds fs fit.1)
each_given os [] (f ∷ fs) fit = absurd fit
each_given os (d ∷ ds) [] fit = absurd fit

-- what is written of the fields of an object that fits
pub fields_given : (os : Things) (ds : DeclaredFields) (fs : List (List ℕ × Data)) → FieldsAre (NamesObject os) ds fs → IsGiven (added json.no_members fs)
fields_given os ds fs fit = record {
  ordered = ascending_added fs json.no_members tt;
  each = each_added IsGivenJson fs json.no_members (each_given os ds fs fit) tt;
}

-- ---- the objects

object_again : (old ts : Declared) (os : Things) (o : List ℕ × Thing) → FieldsApart ts → FitsType old os o.1 → not (is_some (at_name o.1.type_name ts)) ≡ false → has_flaw undeclared ts (part_for o) ≡ false → has_flaw misfits ts (part_for o) ≡ false
    → named_written (object_of ts (part_for o)) ≡ named_written o
object_again old ts os o apart fits typed declared fit =
    let found = some_of (at_name o.1.type_name ts) typed in
    let ds : DeclaredFields = found.0 in
    let g : json.Members = added json.no_members o.1.fields in
    let again : added json.no_members (map (given_field g) ds) ≡ g =
    fields_again ds g (found_every AreApart o.1.type_name ts ds apart found.1) (fields_given os fits.fields o.1.fields fits.fit) (sym (flaw_known undeclared ts (part_for o) ds found.1) ∙ declared) (sym (flaw_known misfits ts (part_for o) ds found.1) ∙ fit) in
    rw found.1 (ap (λ (ms : json.Members). (o.0, (o.1.type_name, ms))) again)

objects_again : (old ts : Declared) (all os : Things) → FieldsApart ts → AllByRecursion (λ o. FitsType old all o.1) os → unknown_type ts (map part_for os) ≡ false → unknown_field ts (map part_for os) ≡ false → wrong_kind ts (map part_for os) ≡ false
    → map named_written (map (object_of ts) (map part_for os)) ≡ map named_written os
objects_again old ts all [] apart fits typed declared fit = refl
objects_again old ts all (o ∷ os) apart fits typed declared fit =
    let here : named_written (object_of ts (part_for o)) ≡ named_written o =
    object_again old ts all o apart fits.0 (or_left _ (unknown_type ts (map part_for os)) typed) (or_left _ (unknown_field ts (map part_for os)) declared) (or_left _ (wrong_kind ts (map part_for os)) fit) in
    let more : map named_written (map (object_of ts) (map part_for os)) ≡ map named_written os =
    objects_again old ts all os apart fits.1 (or_right (not (is_some (at_name o.1.type_name ts))) _ typed) (or_right (has_flaw undeclared ts (part_for o)) _ declared) (or_right (has_flaw misfits ts (part_for o)) _ fit) in
    ap (λ x. x ∷ map named_written (map (object_of ts) (map part_for os))) here ∙ ap (λ xs. named_written o ∷ xs) more

-- ---- the bundle

abbrev drafted : Bundled → BundleDraft
drafted a = record { root = a.root; objects = map part_for a.objects }

-- what is read of what was written of a well-typed bundle is that draft, in which nothing is wrong
read_as : (old ts : Declared) (asked : Option (List ℕ)) (a b : Bundled) → IsWellTyped old a → bundle_read ts asked (bundle_json a) ≡ Ok b → (draft_fault ts asked (drafted a) ≡ None) × (bundle_of ts (drafted a) ≡ b)
read_as old ts asked a b typed e =
    unless_none (draft_fault ts asked (drafted a)) (bundle_of ts (drafted a)) b (ap (judged ts asked) (sym (draft_back a.root a.objects typed.ascending)) ∙ e)

pub alike : (old ts : Declared) (asked : Option (List ℕ)) (a b : Bundled) → FieldsApart ts → IsWellTyped old a → bundle_read ts asked (bundle_json a) ≡ Ok b → bundle_written b ≡ bundle_written a
alike old ts asked a b apart typed e =
    let read = read_as old ts asked a b typed e in
    let ok = faultless ts asked (drafted a) read.0 in
    ap bundle_written (sym read.1) ∙ ap (λ xs. (a.root, xs)) (objects_again old ts a.objects a.objects apart typed.typed ok.typed ok.declared ok.fits)

pub gives_alike : (r : Result Bundle BundleFault) (ts : Declared) (asked : Option (List ℕ)) (j : json.Data) → FieldsApart ts → Gives Memory bundle_view r (bundle_read ts asked j)
    → IfOk r (λ b. (old : Declared) (a : Bundled) → IsWellTyped old a → j ≡ bundle_json a → bundle_written (bundle_view b) ≡ bundle_written a)
gives_alike (Ok b) ts asked j apart given = λ old a typed is. alike old ts asked a (bundle_view b) apart typed (rw is at given)
gives_alike (Err e) ts asked j apart given = tt

-- ---- what is written says the JSON

abbrev written_json : List ℕ × json.Members → json.Data
written_json w = json.object (json.member (codes "fields") (json.object w.1) (json.member (codes "type") (json.string w.0) json.no_members))

abbrev all_added : json.Members → List (List ℕ × (List ℕ × json.Members)) → json.Members
all_added ms [] = ms
all_added ms (w ∷ ws) = all_added (json.put w.0 (written_json w.1) ms) ws

objects_all : (ms : json.Members) (os : Things) → objects_added ms os ≡ all_added ms (map named_written os)
objects_all ms [] = refl
objects_all ms (o ∷ os) = objects_all (json.put o.0 (thing_json o.1) ms) os

abbrev root_with : List ℕ → json.Members → json.Data
root_with root ms = json.object (json.member (codes "objects") (json.object ms) (json.member (codes "root") (json.string root) json.no_members))

json_of : (b : Bundled) → bundle_json b ≡ root_with b.root (all_added json.no_members (map named_written b.objects))
json_of b = ap (root_with b.root) (objects_all json.no_members b.objects)

pub same_json : (a b : Bundled) → bundle_written a ≡ bundle_written b → bundle_json a ≡ bundle_json b
same_json a b same = json_of a ∙ ap (λ w. root_with w.0 (all_added json.no_members w.1)) same ∙ sym (json_of b)

-- ---- what is read again is well-typed

field_written : (g : json.Members) (d : List ℕ × TypeUse) (o : Option json.Data) → ((j : json.Data) → o ≡ Some j → IsPlain j) → IsWritten (datum_at d.1 o)
field_written g d None h = refl
field_written g d (Some j) h = at (datum_of d.1 j) refl
  where
    at : (o : Option Data) → datum_of d.1 j ≡ o → is_some (written (datum_at d.1 (Some j))) ≡ true
    at None is = rw is refl
    at (Some x) is = rw (is, written_again d.1 j x (h j refl) is) refl

fields_written : (g : json.Members) (ds : DeclaredFields) → IsGiven g → AllByRecursion (λ f. IsWritten f.1) (map (given_field g) ds)
fields_written g [] given = tt
fields_written g (d ∷ ds) given = (field_written g d (get_member d.0 g) (λ j found. (each_found IsGivenJson d.0 g j given.each found).0), fields_written g ds given)

all_written : (old ts : Declared) (all os : Things) → AllByRecursion (λ o. FitsType old all o.1) os → AllByRecursion AreWritten (map (object_of ts) (map part_for os))
all_written old ts all [] fits = tt
all_written old ts all (o ∷ os) fits =
    (fields_written (added json.no_members o.1.fields) (fields_of ts o.1.type_name) (fields_given all fits.0.fields o.1.fields fits.0.fit), all_written old ts all os fits.1)

same_names : (ts : Declared) (os : Things) → keys_of (map (object_of ts) (map part_for os)) ≡ keys_of os
same_names ts [] = refl
same_names ts (o ∷ os) = ap (λ ns. o.0 ∷ ns) (same_names ts os)

pub again_typed : (old ts : Declared) (asked : Option (List ℕ)) (a b : Bundled) → FieldsApart ts → IsWellTyped old a → bundle_read ts asked (bundle_json a) ≡ Ok b → IsWellTyped ts b
again_typed old ts asked a b apart typed e =
    let read = read_as old ts asked a b typed e in
    let ascending : IsAscending (keys_of (bundle_of ts (drafted a)).objects) = subst (λ (ns : List (List ℕ)). IsAscending ns) (sym (same_names ts a.objects)) typed.ascending in
    read_well_typed ts asked (bundle_json a) b apart (subst (λ (c : Bundled). IsAscending (keys_of c.objects)) read.1 ascending)
    (subst (λ (c : Bundled). AllByRecursion AreWritten c.objects) read.1 (all_written old ts a.objects a.objects typed.typed)) e
