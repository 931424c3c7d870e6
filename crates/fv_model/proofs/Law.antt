-- What was written of a well-typed bundle is read as that bundle.
use Rattle.std.proofs.Common.{◌≡◌, ◌≢◌, ℕ, List, [], ◌∷◌, ◌++◌, map, length, cond, Bool, true, false, not, nat_lt, Option, Some, None, Ok, Ordering, Less, Equal, Greater, nat_cmp, bytes_eq, is_some, option_map, refl, sym, ap, subst, ◌∙◌, true≢false, append_assoc, append-nil}
use Rattle.std.specs.List.{list_any, AllByRecursion}
use Rattle.std.specs.Map.{keys_of}
use Rattle.std.specs.Option.{ForSome}
use Rattle.std.specs.Ordering.{match_ordering, ordering_reverse}
use Rattle.std.specs.Cmp.Lexicographic.{slice_cmp}
use Rattle.std.proofs.lemmas.Bool.{le-ltb}
use Rattle.std.proofs.lemmas.Cmp.{nat_list_cmp_total}
use Rattle.std.proofs.lemmas.List.{length-map}
use Rattle.std.proofs.lemmas.Map.Keys.{sorted_head, sorted_tail}
use Rattle.std.proofs.lemmas.Map.Lookups.{exact_bytes}
use Rattle.std.proofs.lemmas.Slice.Eq.{bytes_eq-Decides}
use Rattle.serde_json.specs.Data as json
use Rattle.serde_json.specs.Find.{get_member}
use Rattle.serde_json.proofs.Views.{get_member-put, get_member-put_other}
use Rattle.fv_datum.specs.Outcomes.{first, unless_fault}
use Rattle.fv_datum.specs.Data.{Data, null}
use Rattle.fv_datum.specs.Lookup.{at_name}
use Rattle.fv_datum.specs.Name.{names}
use Rattle.fv_datum.specs.Written.{is_null}
use Rattle.fv_bundle.specs.Flaws.{Flaw, undeclared, misfits, dangles, is_other, strays, is_large}
use Rattle.fv_bundle.specs.Names.{ObjectTypes}
use Rattle.fv_bundle.proofs.Back.{read_back, none_large, none_refers}
use Rattle.fv_bundle.specs.Bundles.{IsAscending, Thing, Things, Bundled}
use Rattle.fv_datum.specs.Members.{pairs, each_some}
use Rattle.fv_model.specs.Draft.{ObjectDraft, BundleDraft, object_draft, bundle_draft_of}
use Rattle.fv_model.specs.Reading.{object_types, has_flaw, bundle_conditions, datum_at, given_field, object_of, bundle_of, bundle_read}
use Rattle.fv_bundle.specs.Types.{TypeUse, DeclaredFields, Declared, AreApart, FieldsApart, name_at}
use Rattle.fv_bundle.specs.WellTyped.{NamesObject, FitsUse, FieldsAre, FitsType, IsWellTyped, HasRootType}
use Rattle.fv_model.specs.Writing.{datum_json, thing_json, bundle_json}
use Rattle.fv_model.proofs.Conditions.{root_missing, large_datum, root_type, draft_fault, judged, added, objects_added, flaw_among}
use Rattle.fv_bundle.specs.declared.types.TypeId.{TypeId}
use Rattle.fv_datum.proofs.Lists.{each_of, none_made}
use Rattle.fv_datum.proofs.Bools.{or_false, or_left, or_right}
use Rattle.fv_datum.proofs.Apart.{apart-head, apart-tail}
use Rattle.fv_datum.proofs.Lookups.{found_every}
use Rattle.fv_datum.proofs.Sorted.{below_middle}

-- ---- the fields

pub put_if : (b : Bool) (q k : List ℕ) (d : json.Data) (ms : json.Members) → q ≢ k → get_member q (cond b ms (json.put k d ms)) ≡ get_member q ms
put_if true q k d ms other = refl
put_if false q k d ms other = get_member-put_other q k d ms other

pub added_other : (q : List ℕ) (fs : List (List ℕ × Data)) (ms : json.Members) → AllByRecursion (λ f. q ≢ f.0) fs → get_member q (added ms fs) ≡ get_member q ms
added_other q [] ms h = refl
added_other q (f ∷ fs) ms h = added_other q fs _ h.1 ∙ put_if (is_null f.1) q f.0 (datum_json f.1) ms h.0

-- the names of the fields are those of the type
same_names : (os : Things) (q : List ℕ) (ds : DeclaredFields) (fs : List (List ℕ × Data)) → FieldsAre (NamesObject os) ds fs → AllByRecursion (λ e. e.0 ≢ q) ds → AllByRecursion (λ f. q ≢ f.0) fs
same_names os q [] [] fit h = tt
same_names os q (d ∷ ds) (f ∷ fs) fit h = (λ e. h.0 (sym fit.0.0 ∙ sym e), same_names os q ds fs fit.1 h.1)
same_names os q [] (f ∷ fs) fit h = absurd fit
same_names os q (d ∷ ds) [] fit h = absurd fit

is_null_null : (d : Data) → is_null d ≡ true → d ≡ null
is_null_null null e = refl
is_null_null _ e = absurd (true≢false (sym e))

-- the datum that is read at a name where it was put, or where it is null
at_put : (os : Things) (b : Bool) (type : TypeUse) (k : List ℕ) (d : Data) (ms : json.Members) → b ≡ is_null d → FitsUse os type d → get_member k ms ≡ None
    → datum_at type (get_member k (cond b ms (json.put k (datum_json d) ms))) ≡ d
at_put os true type k d ms e fit none = rw none (sym (is_null_null d (sym e)))
at_put os false type k d ms e fit none = rw (get_member-put k (datum_json d) ms, read_back (NamesObject os) type d fit) refl

none_put : (b : Bool) (k : List ℕ) (d : json.Data) (ms : json.Members) (ds : DeclaredFields) → AllByRecursion (λ e. e.0 ≢ k) ds → AllByRecursion (λ e. get_member e.0 ms ≡ None) ds
    → AllByRecursion (λ e. get_member e.0 (cond b ms (json.put k d ms)) ≡ None) ds
none_put b k d ms [] other none = tt
none_put b k d ms (e ∷ ds) other none = (put_if b e.0 k d ms other.0 ∙ none.0, none_put b k d ms ds other.1 none.1)

fields_back : (os : Things) (ds : DeclaredFields) (fs : List (List ℕ × Data)) (ms : json.Members) → AreApart ds → FieldsAre (NamesObject os) ds fs → AllByRecursion (λ e. get_member e.0 ms ≡ None) ds
    → map (given_field (added ms fs)) ds ≡ fs
fields_back os [] [] ms apart fit none = refl
fields_back os (d ∷ ds) (f ∷ fs) ms apart fit none =
    let now = cond (is_null f.1) ms (json.put f.0 (datum_json f.1) ms) in
    let same : f.0 ≡ d.0 = fit.0.0 in
    let others : AllByRecursion (λ e. e.0 ≢ f.0) ds = rw same (apart-head d ds apart) in
    let here : get_member f.0 ms ≡ None = rw same none.0 in
    let kept : get_member d.0 (added now fs) ≡ get_member f.0 now = rw (← same) (added_other f.0 fs now (same_names os f.0 ds fs fit.1 others)) in
    let datum : datum_at d.1 (get_member d.0 (added now fs)) ≡ f.1 = ap (datum_at d.1) kept ∙ at_put os (is_null f.1) d.1 f.0 f.1 ms refl fit.0.1 here in
    let tail = fields_back os ds fs now (apart-tail d ds apart) fit.1 (none_put (is_null f.1) f.0 (datum_json f.1) ms ds others none.1) in
    let head : given_field (added now fs) d ≡ f = ap (λ x. (x, datum_at d.1 (get_member d.0 (added now fs)))) (sym same) ∙ ap (λ x. (f.0, x)) datum in
    ap (λ x. x ∷ map (given_field (added now fs)) ds) head ∙ ap (λ xs. f ∷ xs) tail
fields_back os [] (f ∷ fs) ms apart fit none = absurd fit
fields_back os (d ∷ ds) [] ms apart fit none = absurd fit

-- ---- no given field is refused

any_put_at : (t : List ℕ × json.Data → Bool) (o : Ordering) (k l : List ℕ) (d e : json.Data) (ms : json.Members) → slice_cmp nat_cmp k l ≡ o → t (k, d) ≡ false → list_any t (pairs (json.member l e ms)) ≡ false → list_any t (pairs (json.put k d ms)) ≡ false
    → t (l, e) ≡ false → list_any t (pairs ms) ≡ false
    → list_any t (pairs (match_ordering o (json.member k d (json.member l e ms)) (json.member l d ms) (json.member l e (json.put k d ms)))) ≡ false
any_put_at t Less k l d e ms is here old later head tail = or_false (t (k, d)) _ here old
any_put_at t Equal k l d e ms is here old later head tail = or_false (t (l, d)) _ (subst (λ (x : List ℕ). t (x, d) ≡ false) (exact_bytes k l is) here) tail
any_put_at t Greater k l d e ms is here old later head tail = or_false (t (l, e)) _ head later

any_put : (t : List ℕ × json.Data → Bool) (k : List ℕ) (d : json.Data) (ms : json.Members) → t (k, d) ≡ false → list_any t (pairs ms) ≡ false → list_any t (pairs (json.put k d ms)) ≡ false
any_put t k d json.no_members here old = or_false (t (k, d)) false here refl
any_put t k d (json.member l e ms) here old =
    let head : t (l, e) ≡ false = or_left (t (l, e)) (list_any t (pairs ms)) old in
    let tail : list_any t (pairs ms) ≡ false = or_right (t (l, e)) (list_any t (pairs ms)) old in
    any_put_at t (slice_cmp nat_cmp k l) k l d e ms refl here old (any_put t k d ms here tail) head tail

any_put_if : (t : List ℕ × json.Data → Bool) (b : Bool) (k : List ℕ) (d : json.Data) (ms : json.Members) → t (k, d) ≡ false → list_any t (pairs ms) ≡ false → list_any t (pairs (cond b ms (json.put k d ms))) ≡ false
any_put_if t true k d ms here old = old
any_put_if t false k d ms here old = any_put t k d ms here old

pub any_added : (t : List ℕ × json.Data → Bool) (fs : List (List ℕ × Data)) (ms : json.Members) → AllByRecursion (λ f. t (f.0, datum_json f.1) ≡ false) fs → list_any t (pairs ms) ≡ false → list_any t (pairs (added ms fs)) ≡ false
any_added t [] ms each old = old
any_added t (f ∷ fs) ms each old = any_added t fs _ each.1 (any_put_if t (is_null f.1) f.0 (datum_json f.1) ms each.0 old)

same_bytes : (xs : List ℕ) → bytes_eq xs xs ≡ true
same_bytes xs = (bytes_eq-Decides xs xs).1 refl

other_bytes : (xs ys : List ℕ) (b : Bool) → bytes_eq xs ys ≡ b → xs ≢ ys → b ≡ false
other_bytes xs ys true e other = absurd (other ((bytes_eq-Decides xs ys).0 e))
other_bytes xs ys false e other = refl

skip : (d : List ℕ × TypeUse) (all ds : DeclaredFields) → AllByRecursion (λ e. e.0 ≢ d.0) ds → AllByRecursion (λ e. at_name e.0 all ≡ Some e.1) ds → AllByRecursion (λ e. at_name e.0 (d ∷ all) ≡ Some e.1) ds
skip d all [] other known = tt
skip d all (e ∷ ds) other known = (rw (other_bytes e.0 d.0 _ refl other.0) known.0, skip d all ds other.1 known.1)

-- each field is found by its name
pub found_each : (ds : DeclaredFields) → AreApart ds → AllByRecursion (λ e. at_name e.0 ds ≡ Some e.1) ds
found_each [] apart = tt
found_each (d ∷ ds) apart = (rw (same_bytes d.0) refl, skip d ds ds (apart-head d ds apart) (found_each ds (apart-tail d ds apart)))

-- ---- references

-- the names of types are those of the objects
abbrev pub Agree : ObjectTypes → Things → Type 0
Agree types os = (name : List ℕ) → at_name name types ≡ option_map (λ t. t.type_name) (at_name name os)

known_type : (os : Things) (types : ObjectTypes) (type name : List ℕ) → Agree types os → NamesObject os type name → at_name name types ≡ Some type
known_type os types type name agree (t, found, same) = agree name ∙ ap (option_map (λ (u : Thing). u.type_name)) found ∙ ap (λ n. Some n) same

missing_not : (types : ObjectTypes) (type name : List ℕ) → at_name name types ≡ Some type → not (is_some (at_name name types)) ≡ false
missing_not types type name found = rw found refl

not_dangling : (os : Things) (types : ObjectTypes) (type : TypeUse) (d : Data) → Agree types os → FitsUse os type d → dangles types (Some type) (datum_json d) ≡ false
not_dangling os types type d agree fits =
    none_refers (NamesObject os) (λ own name. not (is_some (at_name name types))) (λ own name is. missing_not types own name (known_type os types own name agree is)) type d fits

other_not : (types : ObjectTypes) (type name : List ℕ) → at_name name types ≡ Some type → is_other type (at_name name types) ≡ false
other_not types type name found = rw (found, same_bytes type) refl

not_stray : (os : Things) (types : ObjectTypes) (type : TypeUse) (d : Data) → Agree types os → FitsUse os type d → strays types (Some type) (datum_json d) ≡ false
not_stray os types type d agree fits =
    none_refers (NamesObject os) (λ own name. is_other own (at_name name types)) (λ own name is. other_not types own name (known_type os types own name agree is)) type d fits

-- no field is undeclared, of another kind, refers wrongly or is too large
pub record Taken (types : ObjectTypes) (all : DeclaredFields) (fs : List (List ℕ × Data)) : Type 0 where
  pub declared : AllByRecursion (λ f. not (is_some (at_name f.0 all)) ≡ false) fs
  pub fits : AllByRecursion (λ f. misfits (at_name f.0 all) (datum_json f.1) ≡ false) fs
  pub there : AllByRecursion (λ f. dangles types (at_name f.0 all) (datum_json f.1) ≡ false) fs
  pub own : AllByRecursion (λ f. strays types (at_name f.0 all) (datum_json f.1) ≡ false) fs
  pub lengths : AllByRecursion (λ f. is_large (at_name f.0 all) (datum_json f.1) ≡ false) fs

pub taken : (os : Things) (types : ObjectTypes) (all ds : DeclaredFields) (fs : List (List ℕ × Data)) → Agree types os → FieldsAre (NamesObject os) ds fs → AllByRecursion (λ e. at_name e.0 all ≡ Some e.1) ds → Taken types all fs
taken os types all [] [] agree fit known = record { declared = tt; fits = tt; there = tt; own = tt; lengths = tt }
taken os types all (d ∷ ds) (f ∷ fs) agree fit known =
    let found : at_name f.0 all ≡ Some d.1 = rw fit.0.0 known.0 in
    let more = taken os types all ds fs agree fit.1 known.1 in
    record {
      declared = (rw found refl, more.declared);
      fits = (rw (found, read_back (NamesObject os) d.1 f.1 fit.0.1) refl, more.fits);
      there = (rw found (not_dangling os types d.1 f.1 agree fit.0.1), more.there);
      own = (rw found (not_stray os types d.1 f.1 agree fit.0.1), more.own);
      lengths = (rw found (none_large (NamesObject os) d.1 f.1 fit.0.1), more.lengths);
    }
taken os types all [] (f ∷ fs) agree fit known = absurd fit
taken os types all (d ∷ ds) [] agree fit known = absurd fit

none_there : (ds : DeclaredFields) → AllByRecursion (λ e. get_member e.0 json.no_members ≡ None) ds
none_there [] = tt
none_there (d ∷ ds) = (refl, none_there ds)

-- ---- one object

-- an object of a declared type has a flaw where its data have it
pub flaw_known : (flaw : Flaw) (ts : Declared) (p : ObjectDraft) (ds : DeclaredFields) → at_name p.type_name ts ≡ Some ds → has_flaw flaw ts p ≡ flaw_among flaw ds (pairs p.given)
unfolding has_flaw
flaw_known flaw ts p ds is = rw is refl

abbrev the_thing : List ℕ → List (List ℕ × Data) → Thing
the_thing type fields = record { type_name = type; fields = fields }

-- an object as it is given by what is written of it
abbrev pub part_for : List ℕ × Thing → ObjectDraft
part_for o = record { name = o.0; type_name = o.1.type_name; given = added json.no_members o.1.fields }

-- no fault at an object, which is read as it was
record IsBack (ts : Declared) (types : ObjectTypes) (o : List ℕ × Thing) : Type 0 where
  typed : not (is_some (at_name o.1.type_name ts)) ≡ false
  declared : has_flaw undeclared ts (part_for o) ≡ false
  fits : has_flaw misfits ts (part_for o) ≡ false
  there : has_flaw (dangles types) ts (part_for o) ≡ false
  own : has_flaw (strays types) ts (part_for o) ≡ false
  short : has_flaw is_large ts (part_for o) ≡ false
  back : object_of ts (part_for o) ≡ o

object_back : (ts : Declared) (os : Things) (types : ObjectTypes) (o : List ℕ × Thing) → FieldsApart ts → Agree types os → FitsType ts os o.1 → IsBack ts types o
object_back ts os types o ts_apart agree fits_type =
    let fs = o.1.fields in
    let ds : DeclaredFields = fits_type.fields in
    let is : at_name o.1.type_name ts ≡ Some ds = fits_type.declared in
    let apart : AreApart ds = found_every AreApart o.1.type_name ts ds ts_apart is in
    let part : ObjectDraft = part_for o in
    let all = taken os types ds ds fs agree fits_type.fit (found_each ds apart) in
    let back : map (given_field (added json.no_members fs)) ds ≡ fs = fields_back os ds fs json.no_members apart fits_type.fit (none_there ds) in
    record {
      typed = rw is refl;
      declared = flaw_known undeclared ts part ds is ∙ any_added (λ g. not (is_some (at_name g.0 ds))) fs json.no_members all.declared refl;
      fits = flaw_known misfits ts part ds is ∙ any_added (λ g. misfits (at_name g.0 ds) g.1) fs json.no_members all.fits refl;
      there = flaw_known (dangles types) ts part ds is ∙ any_added (λ g. dangles types (at_name g.0 ds) g.1) fs json.no_members all.there refl;
      own = flaw_known (strays types) ts part ds is ∙ any_added (λ g. strays types (at_name g.0 ds) g.1) fs json.no_members all.own refl;
      short = flaw_known is_large ts part ds is ∙ any_added (λ g. is_large (at_name g.0 ds) g.1) fs json.no_members all.lengths refl;
      back = rw is (ap (λ (xs : List (List ℕ × Data)). (o.0, the_thing o.1.type_name xs)) back);
    }

-- ---- the objects

all_back : (ts : Declared) (types : ObjectTypes) (os : Things) → AllByRecursion (IsBack ts types) os → map (object_of ts) (map part_for os) ≡ os
all_back ts types [] all = refl
all_back ts types (o ∷ os) all = ap (λ x. x ∷ map (object_of ts) (map part_for os)) all.0.back ∙ ap (λ xs. o ∷ xs) (all_back ts types os all.1)

type_here : (b : Bool) (t : Thing) (rest : Option (List ℕ)) (found : Option Thing) → rest ≡ option_map (λ u. u.type_name) found → cond b (Some t.type_name) rest ≡ option_map (λ u. u.type_name) (cond b (Some t) found)
type_here true t rest found e = refl
type_here false t rest found e = e

pub types_agree : (os : Things) → Agree (object_types (map part_for os)) os
types_agree [] name = refl
types_agree (o ∷ os) name = type_here (bytes_eq name o.0) o.1 _ _ (types_agree os name)

-- ---- the written objects

-- a name that is above those before it goes last
put_last : (ms : json.Members) (k : List ℕ) (d : json.Data) (more : List (List ℕ × json.Data)) → IsAscending (keys_of (pairs ms ++ (k, d) ∷ more)) → pairs (json.put k d ms) ≡ pairs ms ++ (k, d) ∷ []
put_last json.no_members k d more h = refl
put_last (json.member l e ms) k d more h =
    let rest = keys_of (pairs ms ++ (k, d) ∷ more) in
    let below : slice_cmp nat_cmp l k ≡ Less = below_middle l k d (pairs ms) more (sorted_head (slice_cmp nat_cmp) l rest h) in
    let above : slice_cmp nat_cmp k l ≡ Greater = nat_list_cmp_total.antisymm k l ∙ ap ordering_reverse below in
    rw above (ap (λ xs. (l, e) ∷ xs) (put_last ms k d more (sorted_tail (slice_cmp nat_cmp) l rest h)))

abbrev json_of : List ℕ × Thing → List ℕ × json.Data
json_of o = (o.0, thing_json o.1)

-- objects in order are written one after another
written_last : (os : Things) (ms : json.Members) → IsAscending (keys_of (pairs ms ++ map json_of os)) → pairs (objects_added ms os) ≡ pairs ms ++ map json_of os
written_last [] ms h = sym (append-nil (pairs ms))
written_last (o ∷ os) ms h =
    let last : pairs (json.put o.0 (thing_json o.1) ms) ≡ pairs ms ++ json_of o ∷ [] = put_last ms o.0 (thing_json o.1) (map json_of os) h in
    let all : pairs (json.put o.0 (thing_json o.1) ms) ++ map json_of os ≡ pairs ms ++ json_of o ∷ map json_of os = ap (λ xs. xs ++ map json_of os) last ∙ simp append_assoc in
    written_last os (json.put o.0 (thing_json o.1) ms) (subst (λ (xs : List (List ℕ × json.Data)). IsAscending (keys_of xs)) (sym all) h) ∙ all

json_named : (os : Things) → keys_of (map json_of os) ≡ keys_of os
json_named [] = refl
json_named (o ∷ os) = ap (λ ns. o.0 ∷ ns) (json_named os)

each_part : (os : Things) → each_some object_draft (map json_of os) ≡ Some (map part_for os)
each_part [] = refl
each_part (o ∷ os) = rw (each_part os) refl

parts_back : (os : Things) → IsAscending (keys_of os) → each_some object_draft (pairs (objects_added json.no_members os)) ≡ Some (map part_for os)
parts_back os ascending =
    let names : IsAscending (keys_of (map json_of os)) = subst (λ (ns : List (List ℕ)). IsAscending ns) (sym (json_named os)) ascending in
    ap (each_some object_draft) (written_last os json.no_members names) ∙ each_part os

pub draft_back : (root : List ℕ) (os : Things) → IsAscending (keys_of os) → bundle_draft_of (bundle_json (record { root = root; objects = os })) ≡ Some (record { root = root; objects = map part_for os })
draft_back root os ascending = rw (parts_back os ascending) refl

-- ---- the bundle

-- where no condition holds there is no first fault
pub no_first : {E : Type 0} (cs : List (Bool × E)) → AllByRecursion (λ c. c.0 ≡ false) cs → first cs ≡ None
no_first [] all = refl
no_first (c ∷ cs) all = rw all.0 (no_first cs all.1)

-- no type is asked of the root, or its own
pub root_asked : (asked : Option (List ℕ)) (root : List ℕ) (os : Things) → ((type : List ℕ) → asked ≡ Some type → NamesObject os type root) → root_type asked root (map part_for os) ≡ false
root_asked None root os own = refl
root_asked (Some type) root os own = rw (known_type os (object_types (map part_for os)) type root (types_agree os) (own type refl), same_bytes type) refl

pub is_there : (o : Option Thing) → is_some o ≡ true → not (is_some (option_map (λ t. t.type_name) o)) ≡ false
is_there (Some t) e = refl
is_there None e = absurd (true≢false (sym e))

-- what is given as it is written of a well-typed bundle
abbrev pub draft_for : Bundled → BundleDraft
draft_for b = record { root = b.root; objects = map part_for b.objects }

pub drafted_back : (ts : Declared) (asked : Option (List ℕ)) (b : Bundled) → FieldsApart ts → IsWellTyped ts b → ((type : List ℕ) → asked ≡ Some type → HasRootType type b) → judged ts asked (Some (draft_for b)) ≡ Ok b
drafted_back ts asked b apart well rooted =
    let os = b.objects in
    let ps : List ObjectDraft = map part_for os in
    let types = object_types ps in
    let all : AllByRecursion (IsBack ts types) os = each_of (λ o. FitsType ts os o.1) (IsBack ts types) os (λ o fits. object_back ts os types o apart (types_agree os) fits) well.typed in
    let few : nat_lt 256 (length ps) ≡ false = rw length-map (le-ltb 256 (length os) well.few) in
    let long : large_datum ts ps ≡ false = none_made (has_flaw is_large ts) part_for (IsBack ts types) os (λ o back. back.short) all in
    let there : root_missing b.root ps ≡ false = rw (types_agree os b.root) (is_there (at_name b.root os) well.rooted) in
    let none : draft_fault ts asked (record { root = b.root; objects = ps }) ≡ None =
    no_first (bundle_conditions ts asked (record { root = b.root; objects = ps })) (
      none_made (λ p. not (names p.name)) part_for (λ o. names o.0 ≡ true) os (λ o named. rw named refl) well.named,
      (
        there,
        (
          none_made (λ p. not (is_some (at_name p.type_name ts))) part_for (IsBack ts types) os (λ o back. back.typed) all,
          (
            none_made (has_flaw undeclared ts) part_for (IsBack ts types) os (λ o back. back.declared) all,
            (
              none_made (has_flaw misfits ts) part_for (IsBack ts types) os (λ o back. back.fits) all,
              (
                none_made (has_flaw (dangles types) ts) part_for (IsBack ts types) os (λ o back. back.there) all,
                (
                  none_made (has_flaw (strays types) ts) part_for (IsBack ts types) os (λ o back. back.own) all,
                  (or_false _ _ few long, (root_asked asked b.root os rooted, tt)),
                ),
              ),
            ),
          ),
        ),
      ),
    ) in
    ap (λ f. unless_fault f (bundle_of ts (record { root = b.root; objects = ps }))) none ∙ ap (λ (xs : Things). Ok (record { root = b.root; objects = xs })) (all_back ts types os all)

law : (ts : Declared) (asked : Option (List ℕ)) (b : Bundled) → FieldsApart ts → IsWellTyped ts b → ((type : List ℕ) → asked ≡ Some type → HasRootType type b) → bundle_read ts asked (bundle_json b) ≡ Ok b
law ts asked b apart well rooted = ap (judged ts asked) (draft_back b.root b.objects well.ascending) ∙ drafted_back ts asked b apart well rooted

-- the same, where the type is asked by its number
pub law_asked : (ts : Declared) (asked : Option TypeId) (b : Bundled) → FieldsApart ts → IsWellTyped ts b → ForSome asked (λ t. HasRootType (name_at ts t.index) b)
    → bundle_read ts (option_map (λ t. name_at ts t.index) asked) (bundle_json b) ≡ Ok b
law_asked ts None b apart well rooted = law ts None b apart well (λ type is. cc)
law_asked ts (Some t) b apart well rooted =
    law ts (Some (name_at ts t.index)) b apart well (λ type is. let same : name_at ts t.index ≡ type = cc in subst (λ (n : List ℕ). HasRootType n b) same (rooted t refl))
