-- The text of a well-typed bundle is read back as its JSON.
use Rattle.std.proofs.Common.{◌≡◌, nat_lt, subst, Ordering, Less, Equal, Greater, nat_cmp, ℕ, pos, negsuc, suc, max, ◌≤◌, List, [], ◌∷◌, Bool, true, false, cond, if◌then◌else◌, Some, option_map, option_and_then, refl, sym, ap, ap₂, ◌∙◌, arith, append-nil}
use Rattle.std.specs.List.{fold, AllByRecursion}
use Rattle.std.specs.Str.{bytes_eq}
use Rattle.std.specs.Ordering.{match_ordering}
use Rattle.std.specs.Cmp.Lexicographic.{slice_cmp}
use Rattle.std.proofs.lemmas.Bool.{ltb-false}
use Rattle.json.specs.Lex.{tokens}
use Rattle.json.specs.Json as parsed
use Rattle.json.specs.Tree as tree
use Rattle.json.proofs.Printed.Tokens.{tokens-print}
use Rattle.json.proofs.Printed.Trees.{value-json_tokens, ArePrintable-json_tokens}
use Rattle.json.proofs.Printed.Decimals.{IsNumber-decimal, IsNumber-signed_decimal}
use Rattle.serde_json.specs.Data.{Num, unsigned, negative, float, Data, null, boolean, number, string, array, object, Items, no_items, item, Members, no_members, member, put, depth, items_depth, members_depth}
use Rattle.serde_json.specs.Read.{of_json, of_items, of_members, read, max_depth, number_of}
use Rattle.serde_json.specs.Written.{number_text, outline, items_outline, members_outline, compact_text}
use Rattle.serde_json.proofs.Numbers.{number_of-decimal, number_of-negative}
use Rattle.serde_json.proofs.Texts.{print-outline}
use Rattle.fv_datum.specs.Data as datum
use Rattle.fv_datum.specs.Lookup.{at_name}
use Rattle.fv_datum.specs.Written.{is_null}
use Rattle.fv_bundle.specs.Types.{TypeUse, DeclaredFields, Declared, nested, deep_in, has_deep}
use Rattle.fv_datum.proofs.Bools.{or_left, or_right}
use Rattle.fv_datum.proofs.Lists.{none_each}
use Rattle.fv_datum.proofs.Members.{all_put, ascending_put, put_again}
use Rattle.fv_datum.proofs.PlainJson.{IsWhole, IsPlain, ArePlainItems, ArePlain, IsFlat, Fields, no_fields}
use Rattle.fv_bundle.proofs.PlainJson.{fits_flat}
use Rattle.fv_bundle.specs.Bundles.{Thing, Things, Bundled}
use Rattle.fv_bundle.specs.WellTyped.{NamesObject, FitsUse, FieldsAre, FitsType, IsWellTyped}
use Rattle.fv_bundle.specs.Writing.{datum_json}
use Rattle.fv_model.specs.Writing.{thing_json, bundle_json}
use Rattle.fv_store.specs.Texts.{bundle_text}

-- ---- data that are read back

number_back : (n : Num) → IsWhole n → number_of (number_text n) ≡ Some n
number_back (unsigned n) h = number_of-decimal n (omega arith)
number_back (negative (pos n)) h = absurd h
number_back (negative (negsuc n)) h = number_of-negative n h
number_back (float x) h = absurd h

number_is : (n : Num) → IsWhole n → tree.HasNumbers (parsed.number (number_text n))
number_is (unsigned n) h = IsNumber-decimal n (omega arith)
number_is (negative (pos n)) h = absurd h
number_is (negative (negsuc n)) h = IsNumber-signed_decimal (negsuc n) h
number_is (float x) h = absurd h

mutual
  data_back : (d : Data) → IsPlain d → of_json (outline d) ≡ Some d
  data_back null h = refl
  data_back (boolean b) h = refl
  data_back (number n) h = ap (option_map number) (number_back n h)
  data_back (string s) h = refl
  data_back (array ds) h = ap (option_map array) (items_back ds h)
  data_back (object ms) h = ap (option_map object) (members_back no_members ms h.0 ∙ ap Some (put_again ms h.1))

  items_back : (ds : Items) → ArePlainItems ds → of_items (items_outline ds) ≡ Some ds
  items_back no_items h = refl
  items_back (item d ds) h = rw (data_back d h.0, items_back ds h.1) refl

  members_back : (found ms : Members) → ArePlain ms → of_members (members_outline ms) found ≡ Some (all_put found ms)
  members_back found no_members h = refl
  members_back found (member k d ms) h = ap (option_and_then (λ e. of_members (members_outline ms) (put k e found))) (data_back d h.0) ∙ members_back (put k d found) ms h.1

mutual
  data_numbers : (d : Data) → IsPlain d → tree.HasNumbers (outline d)
  data_numbers null h = tt
  data_numbers (boolean b) h = tt
  data_numbers (number n) h = number_is n h
  data_numbers (string s) h = tt
  data_numbers (array ds) h = items_numbers ds h
  data_numbers (object ms) h = members_numbers ms h.0

  items_numbers : (ds : Items) → ArePlainItems ds → tree.ItemsHaveNumbers (items_outline ds)
  items_numbers no_items h = tt
  items_numbers (item d ds) h = (data_numbers d h.0, items_numbers ds h.1)

  members_numbers : (ms : Members) → ArePlain ms → tree.MembersHaveNumbers (members_outline ms)
  members_numbers no_members h = tt
  members_numbers (member k d ms) h = (data_numbers d h.0, members_numbers ms h.1)

mutual
  same_depth : (d : Data) → tree.depth (outline d) ≡ depth d
  same_depth null = refl
  same_depth (boolean b) = refl
  same_depth (number n) = refl
  same_depth (string s) = refl
  same_depth (array ds) = ap suc (same_items_depth ds)
  same_depth (object ms) = ap suc (same_members_depth ms)

  same_items_depth : (ds : Items) → tree.items_depth (items_outline ds) ≡ items_depth ds
  same_items_depth no_items = refl
  same_items_depth (item d ds) = ap₂ max (same_depth d) (same_items_depth ds)

  same_members_depth : (ms : Members) → tree.members_depth (members_outline ms) ≡ members_depth ms
  same_members_depth no_members = refl
  same_members_depth (member k d ms) = ap₂ max (same_depth d) (same_members_depth ms)

pub text_back : (d : Data) → IsPlain d → depth d ≤ max_depth → read (compact_text d) ≡ Some d
text_back d plain shallow =
    let j = outline d in
    let whole : tokens (compact_text d) ≡ tree.json_tokens j = ap tokens (sym (print-outline d)) ∙ tokens-print (tree.json_tokens j) (ArePrintable-json_tokens j (data_numbers d plain)) in
    let deep : tree.depth j ≤ max_depth = rw (same_depth d) shallow in
    let parts : parsed.value max_depth (tokens (compact_text d)) ≡ Some (j, []) = ap (parsed.value max_depth) (whole ∙ sym (append-nil (tree.json_tokens j))) ∙ value-json_tokens j max_depth [] deep in
    ap (λ o. option_and_then of_json (option_and_then (λ p. parsed.if_last p.0 p.1) o)) parts ∙ data_back d plain

-- ---- the fields of an object

plain_put : (k : List ℕ) (d : Data) (ms : Members) → IsPlain d → ArePlain ms → ArePlain (put k d ms)
plain_put k d no_members p h = (p, tt)
plain_put k d (member l e ms) p h = at (slice_cmp nat_cmp k l) (plain_put k d ms p h.1)
  where
    at : (o : Ordering) → ArePlain (put k d ms) → ArePlain (match_ordering o (member k d (member l e ms)) (member l d ms) (member l e (put k d ms)))
    at Less later = (p, h)
    at Equal later = (p, h.1)
    at Greater later = (h.0, later)

flat_put : (n : ℕ) (k : List ℕ) (d : Data) (ms : Members) → depth d ≤ n → members_depth ms ≤ n → members_depth (put k d ms) ≤ n
flat_put n k d no_members p h = omega arith
flat_put n k d (member l e ms) p h = at (slice_cmp nat_cmp k l) (flat_put n k d ms p (omega arith))
  where
    at : (o : Ordering) → members_depth (put k d ms) ≤ n → members_depth (match_ordering o (member k d (member l e ms)) (member l d ms) (member l e (put k d ms))) ≤ n
    at Less later = omega arith
    at Equal later = omega arith
    at Greater later = omega arith

unless_null : (n : ℕ) (b : Bool) (k : List ℕ) (d : Data) (ms : Members) → IsFlat n d → Fields n ms → Fields n (cond b ms (put k d ms))
unless_null n true k d ms flat h = h
unless_null n false k d ms flat h = record { plain = plain_put k d ms flat.0 h.plain; ordered = ascending_put k d ms h.ordered; flat = flat_put n k d ms flat.1 h.flat }

-- the members with each field that isn't null put in
abbrev added : Members → List (List ℕ × datum.Data) → Members
added = fold (λ ms f. if is_null f.1 then ms else put f.0 (datum_json f.1) ms)

-- the members with each object put in
abbrev objects_added : Members → List (List ℕ × Thing) → Members
objects_added = fold (λ ms o. put o.0 (thing_json o.1) ms)

-- no more containers one in another than types have
field_flat : (os : Things) (u : TypeUse) (d : datum.Data) → nat_lt 4 (nested u) ≡ false → FitsUse os u d → IsFlat 4 (datum_json d)
field_flat os u d few fits =
    let flat = fits_flat (NamesObject os) u d fits in
    let bound : nested u ≤ 4 = ltb-false 4 (nested u) few in
    (flat.0, (let deep = flat.1 in omega arith))

fields_added : (os : Things) (ds : DeclaredFields) (fs : List (List ℕ × datum.Data)) (ms : Members) → AllByRecursion (λ d. nat_lt 4 (nested d.1) ≡ false) ds → FieldsAre (NamesObject os) ds fs → Fields 4 ms → Fields 4 (added ms fs)
fields_added os [] [] ms few fit h = h
fields_added os (d ∷ ds) (f ∷ fs) ms few fit h =
    fields_added os ds fs (cond (is_null f.1) ms (put f.0 (datum_json f.1) ms)) few.1 fit.1 (unless_null 4 (is_null f.1) f.0 (datum_json f.1) ms (field_flat os d.1 f.1 few.0 fit.0.1) h)
fields_added os [] (f ∷ fs) ms few fit h = absurd fit
fields_added os (d ∷ ds) [] ms few fit h = absurd fit

-- the fields of declared types hold no more than four containers one in another
fields_few : (name : List ℕ) (ts : Declared) (fields : DeclaredFields) → has_deep ts ≡ false → at_name name ts ≡ Some fields → AllByRecursion (λ d. nat_lt 4 (nested d.1) ≡ false) fields
fields_few name [] fields few found = cc
fields_few name (t ∷ ts) fields few found =
    at (bytes_eq name t.0) (λ later. fields_few name ts fields (or_right (deep_in t.1) (has_deep ts) few) later) found
  where
    at : (b : Bool) → (at_name name ts ≡ Some fields → AllByRecursion (λ d. nat_lt 4 (nested d.1) ≡ false) fields) → cond b (Some t.1) (at_name name ts) ≡ Some fields → AllByRecursion (λ d. nat_lt 4 (nested d.1) ≡ false) fields
    at true rest is = let here : t.1 ≡ fields = cc in subst (λ (ds : DeclaredFields). AllByRecursion (λ d. nat_lt 4 (nested d.1) ≡ false) ds) here (none_each (λ d. nat_lt 4 (nested d.1)) t.1 (or_left (deep_in t.1) (has_deep ts) few))
    at false rest is = rest is

-- the text of an object's fields by itself
pub fields_back : (types : Declared) (all : Things) (t : Thing) → has_deep types ≡ false → FitsType types all t → read (compact_text (object (added no_members t.fields))) ≡ Some (object (added no_members t.fields))
fields_back types all t few fits =
    let fields = fields_added all fits.fields t.fields no_members (fields_few t.type_name types fits.fields few fits.declared) fits.fit (no_fields 4) in
    text_back (object (added no_members t.fields)) (fields.plain, fields.ordered) (let flat = fields.flat in omega arith)

-- and as JSON
pub fields_plain : (types : Declared) (all : Things) (t : Thing) → has_deep types ≡ false → FitsType types all t → ArePlain (added no_members t.fields)
fields_plain types all t few fits = (fields_added all fits.fields t.fields no_members (fields_few t.type_name types fits.fields few fits.declared) fits.fit (no_fields 4)).plain

-- ---- bundles

thing_plain : (t : Thing) → Fields 4 (added no_members t.fields) → IsPlain (thing_json t) × (depth (thing_json t) ≤ 6)
thing_plain t h = ((((h.plain, h.ordered), (tt, tt)), ((refl, tt), (tt, tt))), (let flat = h.flat in omega arith))

objects_fit : (types : Declared) (all os : Things) (ms : Members) → has_deep types ≡ false → AllByRecursion (λ o. FitsType types all o.1) os → Fields 6 ms → Fields 6 (objects_added ms os)
objects_fit types all [] ms few fit h = h
objects_fit types all (o ∷ os) ms few fit h =
    let one = thing_plain o.1 (fields_added all fit.0.fields o.1.fields no_members (fields_few o.1.type_name types fit.0.fields few fit.0.declared) fit.0.fit (no_fields 4)) in
    objects_fit types all os (put o.0 (thing_json o.1) ms) few fit.1 (record {
      plain = plain_put o.0 (thing_json o.1) ms one.0 h.plain;
      ordered = ascending_put o.0 (thing_json o.1) ms h.ordered;
      flat = flat_put 6 o.0 (thing_json o.1) ms one.1 h.flat;
    })

bundle_plain : (types : Declared) (b : Bundled) → has_deep types ≡ false → IsWellTyped types b → IsPlain (bundle_json b) × (depth (bundle_json b) ≤ max_depth)
bundle_plain types b few typed =
    let objects = objects_fit types b.objects b.objects no_members few typed.typed (no_fields 6) in
    ((((objects.plain, objects.ordered), (tt, tt)), ((refl, tt), (tt, tt))), (let flat = objects.flat in omega arith))

pub bundle_back : (types : Declared) (b : Bundled) → has_deep types ≡ false → IsWellTyped types b → read (bundle_text b) ≡ Some (bundle_json b)
unfolding bundle_text
bundle_back types b few typed = let plain = bundle_plain types b few typed in text_back (bundle_json b) plain.0 plain.1
