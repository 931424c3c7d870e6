-- What is read is well-typed, and its root of the asked type.
use Rattle.std.proofs.Common.{◌≡◌, ◌⊎◌, ℕ, ◌≤◌, List, [], ◌∷◌, map, length, cond, Bool, true, false, not, nat_lt, Option, Some, None, Result, Ok, Err, IfOk, option_map, Ordering, Less, Equal, Greater, nat_cmp, bytes_eq, is_some, inl, inr, refl, sym, subst, ◌∙◌}
use Rattle.std.specs.List.{list_any, AllByRecursion}
use Rattle.std.specs.Map.{keys_of}
use Rattle.std.specs.Option.{option_map_or}
use Rattle.std.specs.Option.{ForSome}
use Rattle.std.specs.Ordering.{match_ordering}
use Rattle.std.specs.Cmp.Lexicographic.{slice_cmp}
use Rattle.std.proofs.lemmas.Bool.{ltb-false}
use Rattle.std.proofs.lemmas.List.{length-map}
use Rattle.std.proofs.lemmas.Map.Lookups.{exact_bytes}
use Rattle.std.proofs.lemmas.Slice.Eq.{bytes_eq-Decides}
use Rattle.serde_json.specs.Data as json
use Rattle.serde_json.specs.Find.{get_member, as_str}
use Rattle.fv_datum.specs.Outcomes.{Gives, first}
use Rattle.fv_datum.specs.Lookup.{at_name}
use Rattle.fv_datum.specs.Name.{names}
use Rattle.fv_bundle.specs.Flaws.{misfits, referring, dangles, is_other, strays, is_large}
use Rattle.fv_bundle.specs.Names.{ObjectTypes}
use Rattle.fv_bundle.specs.Spelled.{datum_of}
use Rattle.fv_bundle.proofs.Fitted.{IsFree, spelled_fits}
use Rattle.fv_bundle.specs.Bundles.{IsAscending, Bundled}
use Rattle.fv_datum.specs.Members.{pairs}
use Rattle.fv_model.specs.Draft.{ObjectDraft, BundleDraft, bundle_draft_of}
use Rattle.fv_model.specs.Reading.{has_flaw, object_types, bundle_conditions, datum_at, given_field, object_of, bundle_of, bundle_read}
use Rattle.fv_bundle.specs.Types.{TypeUse, DeclaredFields, Declared, AreApart, FieldsApart, name_at}
use Rattle.fv_model.specs.Views.{bundle_view}
use Rattle.fv_bundle.specs.WellTyped.{NamesObject, FitsUse, FieldsAre, FitsType, IsWellTyped, HasRootType}
use Rattle.fv_model.specs.Writing.{IsWritten}
use Rattle.fv_bundle.proofs.Made.{AreWritten, objects_written}
use Rattle.fv_bundle.specs.declared.bundle.Bundle.{Bundle}
use Rattle.fv_model.specs.declared.fault.BundleFault.{BundleFault}
use Rattle.fv_model.specs.declared.fault.BundleFault.TheVariants.{Memory}
use Rattle.fv_model.proofs.Conditions.{bad_name, root_missing, unknown_type, unknown_field, some_flawed, wrong_kind, dangling_ref, ref_type, large_datum, too_large, root_type, draft_fault, judged, flaw_among}
use Rattle.fv_bundle.specs.declared.types.TypeId.{TypeId}
use Rattle.fv_datum.proofs.Bools.{not_false, or_left, or_right}
use Rattle.fv_datum.proofs.Lookups.{found_every}
use Rattle.fv_datum.proofs.Outcomes.{head_false, unless_none}
use Rattle.fv_model.proofs.Law.{found_each, flaw_known}

-- ---- references

pub some_of : {X : Type 0} (o : Option X) → not (is_some o) ≡ false → (x : X) × (o ≡ Some x)
some_of (Some x) e = (x, refl)
some_of None e = cc

pub chosen : {X : Type 0} (b : Bool) (x : X) (rest : Option X) (y : X) → cond b (Some x) rest ≡ Some y → ((b ≡ true) × (x ≡ y)) ⊎ ((b ≡ false) × (rest ≡ Some y))
chosen true x rest y e = inl (refl, cc)
chosen false x rest y e = inr (refl, e)

-- where a name stands among the names of types, an object of that type has it
named_object : (ts : Declared) (ps : List ObjectDraft) (name type : List ℕ) → at_name name (object_types ps) ≡ Some type → NamesObject (map (object_of ts) ps) type name
named_object ts [] name type e = cc
named_object ts (p ∷ ps) name type e = elim (chosen (bytes_eq name p.name) p.type_name (at_name name (object_types ps)) type e) [
  | inl here ↦ ((object_of ts p).1, rw here.0 refl, here.1)
  | inr more ↦ (let found = named_object ts ps name type more.1 in (found.0, rw more.0 found.1, found.2))
]

same_name : (x y : List ℕ) → not (bytes_eq x y) ≡ false → x ≡ y
same_name x y e = (bytes_eq-Decides x y).0 (not_false (bytes_eq x y) e)

refers_at : (ts : Declared) (ps : List ObjectDraft) (type name : List ℕ) (o : Option (List ℕ)) → option_map_or (λ n. not (is_some (at_name n (object_types ps)))) o false ≡ false → option_map_or (λ n. is_other type (at_name n (object_types ps))) o false ≡ false → o ≡ Some name → NamesObject (map (object_of ts) ps) type name
refers_at ts ps type name None there own is = cc
refers_at ts ps type name (Some s) there own is =
    let same : s ≡ name = cc in
    let found = some_of (at_name s (object_types ps)) there in
    let other : not (bytes_eq type found.0) ≡ false = rw found.1 at own in
    let same_type : type ≡ found.0 = same_name type found.0 other in
    subst (λ (n : List ℕ). NamesObject (map (object_of ts) ps) type n) same (named_object ts ps s type (rw same_type found.1))

-- ---- the fields of an object

found_at : (o : Ordering) (e j : json.Data) (rest : Option json.Data) → match_ordering o rest (Some e) rest ≡ Some j → (rest ≡ Some j) ⊎ ((o ≡ Equal) × (e ≡ j))
found_at Less e j rest is = inl is
found_at Equal e j rest is = inr (refl, cc)
found_at Greater e j rest is = inl is

-- a test that no member passes fails at the member of a name
pub none_at : (t : List ℕ × json.Data → Bool) (q : List ℕ) (ms : json.Members) (j : json.Data) → get_member q ms ≡ Some j → list_any t (pairs ms) ≡ false → t (q, j) ≡ false
none_at t q json.no_members j is none = cc
none_at t q (json.member l e ms) j is none =
    let first_fails : t (l, e) ≡ false = or_left (t (l, e)) (list_any t (pairs ms)) none in
    elim (found_at (slice_cmp nat_cmp q l) e j (get_member q ms) is) [
      | inl more ↦ none_at t q ms j more (or_right (t (l, e)) (list_any t (pairs ms)) none)
      | inr here ↦ rw (exact_bytes q l here.0, ← here.1) first_fails
    ]

-- no fault at a given datum
record IsSound (types : ObjectTypes) (type : Option TypeUse) (j : json.Data) : Type 0 where
  fits : misfits type j ≡ false
  there : dangles types type j ≡ false
  own : strays types type j ≡ false
  short : is_large type j ≡ false

-- a reference to no object, and one to an object of another type
abbrev missing : ObjectTypes → TypeUse → json.Data → Bool
missing types = referring (λ type name. not (is_some (at_name name types)))

abbrev other : ObjectTypes → TypeUse → json.Data → Bool
other types = referring (λ type name. is_other type (at_name name types))

fits_some : (ts : Declared) (ps : List ObjectDraft) (type : TypeUse) (j : json.Data) → IsSound (object_types ps) (Some type) j → IsWritten (datum_at type (Some j)) → FitsUse (map (object_of ts) ps) type (datum_at type (Some j))
fits_some ts ps type j sound can =
    let found = some_of (datum_of type j) sound.fits in
    let free : IsFree (missing (object_types ps)) (other (object_types ps)) type j = record { first = sound.there; second = sound.own; small = sound.short } in
    let written : IsWritten found.0 = rw found.1 at can in
    rw found.1 (spelled_fits (NamesObject (map (object_of ts) ps)) (missing (object_types ps)) (other (object_types ps)) type j found.0 (λ of name k is there own. refers_at ts ps of name (as_str k) there own is) found.1 written free)

fits_at : (ts : Declared) (ps : List ObjectDraft) (type : TypeUse) (o : Option json.Data) → ((j : json.Data) → o ≡ Some j → IsSound (object_types ps) (Some type) j) → IsWritten (datum_at type o) → FitsUse (map (object_of ts) ps) type (datum_at type o)
fits_at ts ps type None h can = inl refl
fits_at ts ps type (Some j) h can = fits_some ts ps type j (h j refl) can

-- no fault among the given data
record AreSound (types : ObjectTypes) (all : DeclaredFields) (given : List (List ℕ × json.Data)) : Type 0 where
  fits : flaw_among misfits all given ≡ false
  there : flaw_among (dangles types) all given ≡ false
  own : flaw_among (strays types) all given ≡ false
  short : flaw_among is_large all given ≡ false

fits_found : (ts : Declared) (ps : List ObjectDraft) (all : DeclaredFields) (given : json.Members) (f : List ℕ × TypeUse) → AreSound (object_types ps) all (pairs given) → at_name f.0 all ≡ Some f.1 → IsWritten (datum_at f.1 (get_member f.0 given)) → FitsUse (map (object_of ts) ps) f.1 (datum_at f.1 (get_member f.0 given))
fits_found ts ps all given f sound found can =
    fits_at ts ps f.1 (get_member f.0 given) (λ j is. record {
      fits = rw found at (none_at (λ g. misfits (at_name g.0 all) g.1) f.0 given j is sound.fits);
      there = rw found at (none_at (λ g. dangles (object_types ps) (at_name g.0 all) g.1) f.0 given j is sound.there);
      own = rw found at (none_at (λ g. strays (object_types ps) (at_name g.0 all) g.1) f.0 given j is sound.own);
      short = rw found at (none_at (λ g. is_large (at_name g.0 all) g.1) f.0 given j is sound.short);
    }) can

fields_fit : (ts : Declared) (ps : List ObjectDraft) (all ds : DeclaredFields) (given : json.Members) → AreSound (object_types ps) all (pairs given) → AllByRecursion (λ e. at_name e.0 all ≡ Some e.1) ds → AllByRecursion (λ f. IsWritten f.1) (map (given_field given) ds)
    → FieldsAre (NamesObject (map (object_of ts) ps)) ds (map (given_field given) ds)
fields_fit ts ps all [] given sound known can = tt
fields_fit ts ps all (d ∷ ds) given sound known can = ((refl, fits_found ts ps all given d sound known.0 can.0), fields_fit ts ps all ds given sound known.1 can.1)

-- ---- the object

-- no fault at an object
record IsSoundPart (ts : Declared) (types : ObjectTypes) (p : ObjectDraft) : Type 0 where
  typed : not (is_some (at_name p.type_name ts)) ≡ false
  fits : has_flaw misfits ts p ≡ false
  there : has_flaw (dangles types) ts p ≡ false
  own : has_flaw (strays types) ts p ≡ false
  short : has_flaw is_large ts p ≡ false

fits_known : (ts : Declared) (ps : List ObjectDraft) (p : ObjectDraft) (ds : DeclaredFields) → FieldsApart ts → at_name p.type_name ts ≡ Some ds → AreSound (object_types ps) ds (pairs p.given) → AreWritten (object_of ts p) → FitsType ts (map (object_of ts) ps) (object_of ts p).1
fits_known ts ps p ds apart is given can =
    let fit = fields_fit ts ps ds ds p.given given (found_each ds (found_every AreApart p.type_name ts ds apart is)) (rw is at can) in
    record { fields = ds; declared = is; fit = rw is fit }

fits_type : (ts : Declared) (ps : List ObjectDraft) (p : ObjectDraft) → FieldsApart ts → IsSoundPart ts (object_types ps) p → AreWritten (object_of ts p) → FitsType ts (map (object_of ts) ps) (object_of ts p).1
fits_type ts ps p apart sound can =
    let found = some_of (at_name p.type_name ts) sound.typed in
    fits_known ts ps p found.0 apart found.1 (record {
      fits = sym (flaw_known misfits ts p found.0 found.1) ∙ sound.fits;
      there = sym (flaw_known (dangles (object_types ps)) ts p found.0 found.1) ∙ sound.there;
      own = sym (flaw_known (strays (object_types ps)) ts p found.0 found.1) ∙ sound.own;
      short = sym (flaw_known is_large ts p found.0 found.1) ∙ sound.short;
    }) can

-- ---- the bundle

-- none of the faults
pub record IsFaultless (ts : Declared) (asked : Option (List ℕ)) (root : List ℕ) (ps : List ObjectDraft) : Type 0 where
  pub named : bad_name ps ≡ false
  pub rooted : root_missing root ps ≡ false
  pub typed : unknown_type ts ps ≡ false
  pub declared : unknown_field ts ps ≡ false
  pub fits : wrong_kind ts ps ≡ false
  pub there : dangling_ref ts ps ≡ false
  pub own : ref_type ts ps ≡ false
  pub small : too_large ts ps ≡ false
  pub type : root_type asked root ps ≡ false

-- where there is no first fault, no condition holds
all_false : {E : Type 0} (cs : List (Bool × E)) → first cs ≡ None → AllByRecursion (λ c. c.0 ≡ false) cs
all_false [] e = tt
all_false (c ∷ cs) e = let parts = head_false c.0 c.1 (first cs) e in (parts.0, all_false cs parts.1)

pub faultless : (ts : Declared) (asked : Option (List ℕ)) (d : BundleDraft) → draft_fault ts asked d ≡ None → IsFaultless ts asked d.root d.objects
faultless ts asked d e =
    let all = all_false (bundle_conditions ts asked d) e in
    record { named = all.0; rooted = all.1.0; typed = all.1.1.0; declared = all.1.1.1.0; fits = all.1.1.1.1.0; there = all.1.1.1.1.1.0; own = all.1.1.1.1.1.1.0; small = all.1.1.1.1.1.1.1.0; type = all.1.1.1.1.1.1.1.1.0 }

judged_ok : (ts : Declared) (asked : Option (List ℕ)) (o : Option BundleDraft) (b : Bundled) → judged ts asked o ≡ Ok b → (d : BundleDraft) × IsFaultless ts asked d.root d.objects × (bundle_of ts d ≡ b)
judged_ok ts asked None b e = cc
judged_ok ts asked (Some d) b e =
    let found = unless_none (draft_fault ts asked d) (bundle_of ts d) b e in
    (d, faultless ts asked d found.0, found.1)

all_of : {X Y : Type 0} (t : X → Bool) (f : X → Y) (P : Y → Type 0) (xs : List X) → ((x : X) → t x ≡ false → P (f x)) → list_any t xs ≡ false → AllByRecursion P (map f xs)
all_of t f P [] each none = tt
all_of t f P (x ∷ xs) each none = (each x (or_left (t x) (list_any t xs) none), all_of t f P xs each (or_right (t x) (list_any t xs) none))

typed_all : (ts : Declared) (all ps : List ObjectDraft) → FieldsApart ts → unknown_type ts ps ≡ false → wrong_kind ts ps ≡ false → some_flawed (dangles (object_types all)) ts ps ≡ false → some_flawed (strays (object_types all)) ts ps ≡ false → large_datum ts ps ≡ false
    → AllByRecursion AreWritten (map (object_of ts) ps) → AllByRecursion (λ o. FitsType ts (map (object_of ts) all) o.1) (map (object_of ts) ps)
typed_all ts all [] apart typed fits there own short can = tt
typed_all ts all (p ∷ ps) apart typed fits there own short can =
    let sound : IsSoundPart ts (object_types all) p = record {
      typed = or_left _ (unknown_type ts ps) typed;
      fits = or_left _ (wrong_kind ts ps) fits;
      there = or_left _ (some_flawed (dangles (object_types all)) ts ps) there;
      own = or_left _ (some_flawed (strays (object_types all)) ts ps) own;
      short = or_left _ (large_datum ts ps) short;
    } in (
      fits_type ts all p apart sound can.0,
      typed_all ts all ps apart (or_right (not (is_some (at_name p.type_name ts))) _ typed) (or_right (has_flaw misfits ts p) _ fits) (or_right (has_flaw (dangles (object_types all)) ts p) _ there)
          (or_right (has_flaw (strays (object_types all)) ts p) _ own) (or_right (has_flaw is_large ts p) _ short) can.1,
    )

well_typed_of : (ts : Declared) (asked : Option (List ℕ)) (root : List ℕ) (ps : List ObjectDraft) → FieldsApart ts → IsFaultless ts asked root ps → IsAscending (keys_of (map (object_of ts) ps)) → AllByRecursion AreWritten (map (object_of ts) ps) → IsWellTyped ts (record { root = root; objects = map (object_of ts) ps })
well_typed_of ts asked root ps apart ok ascending can =
    let few : length ps ≤ 256 = ltb-false 256 (length ps) (or_left (nat_lt 256 (length ps)) (large_datum ts ps) ok.small) in
    let root_is = some_of (at_name root (object_types ps)) ok.rooted in
    let found = named_object ts ps root root_is.0 root_is.1 in
    record {
      few = rw length-map few;
      ascending = ascending;
      named = all_of (λ p. not (names p.name)) (object_of ts) (λ o. names o.0 ≡ true) ps (λ p e. not_false (names p.name) e) ok.named;
      rooted = rw found.1 refl;
      typed = typed_all ts ps ps apart ok.typed ok.fits ok.there ok.own (or_right (nat_lt 256 (length ps)) (large_datum ts ps) ok.small) can;
    }

root_of : (ts : Declared) (type root : List ℕ) (ps : List ObjectDraft) → IsFaultless ts (Some type) root ps → HasRootType type (record { root = root; objects = map (object_of ts) ps })
root_of ts type root ps ok =
    let root_is = some_of (at_name root (object_types ps)) ok.rooted in
    let own : not (bytes_eq type root_is.0) ≡ false = rw root_is.1 at ok.type in
    named_object ts ps root type (rw (same_name type root_is.0 own) root_is.1)

pub judged_well_typed : (ts : Declared) (asked : Option (List ℕ)) (o : Option BundleDraft) (b : Bundled) → FieldsApart ts → IsAscending (keys_of b.objects) → AllByRecursion AreWritten b.objects → judged ts asked o ≡ Ok b → IsWellTyped ts b
judged_well_typed ts asked o b apart ascending can e =
    let found = judged_ok ts asked o b e in
    subst (λ (c : Bundled). IsWellTyped ts c) found.2 (well_typed_of ts asked found.0.root found.0.objects apart found.1 (subst (λ (c : Bundled). IsAscending (keys_of c.objects)) (sym found.2) ascending)
    (subst (λ (c : Bundled). AllByRecursion AreWritten c.objects) (sym found.2) can))

pub read_well_typed : (ts : Declared) (asked : Option (List ℕ)) (j : json.Data) (b : Bundled) → FieldsApart ts → IsAscending (keys_of b.objects) → AllByRecursion AreWritten b.objects → bundle_read ts asked j ≡ Ok b → IsWellTyped ts b
read_well_typed ts asked j b apart ascending can e = judged_well_typed ts asked (bundle_draft_of j) b apart ascending can e

pub read_root : (ts : Declared) (type : List ℕ) (j : json.Data) (b : Bundled) → bundle_read ts (Some type) j ≡ Ok b → HasRootType type b
read_root ts type j b e =
    let found = judged_ok ts (Some type) (bundle_draft_of j) b e in
    subst (λ (c : Bundled). HasRootType type c) found.2 (root_of ts type found.0.root found.0.objects found.1)

-- ---- what the call answers

pub gives_well_typed : (r : Result Bundle BundleFault) (ts : Declared) (asked : Option (List ℕ)) (j : json.Data) → FieldsApart ts → IfOk r (λ b. IsAscending (keys_of (bundle_view b).objects)) → Gives Memory bundle_view r (bundle_read ts asked j) → IfOk r (λ b. IsWellTyped ts (bundle_view b))
gives_well_typed (Ok b) ts asked j apart ascending given = read_well_typed ts asked j (bundle_view b) apart ascending (objects_written b.objects.entries) given
gives_well_typed (Err e) ts asked j apart ascending given = tt

pub gives_root : (r : Result Bundle BundleFault) (ts : Declared) (asked : Option TypeId) (j : json.Data) → Gives Memory bundle_view r (bundle_read ts (option_map (λ t. name_at ts t.index) asked) j) → IfOk r (λ b. ForSome asked (λ t. HasRootType (name_at ts t.index) (bundle_view b)))
gives_root (Ok b) ts asked j given = λ t is. read_root ts (name_at ts t.index) j (bundle_view b) (rw is at given)
gives_root (Err e) ts asked j given = tt
