-- The JSON of a bundle has no float.
use Rattle.std.proofs.Common.{◌≡◌, ◌||◌, ◌++◌, ℕ, pos, negsuc, Bool, true, false, cond, List, [], ◌∷◌, Option, Some, None, option_map, option_and_then, unwrap_or, refl}
use Rattle.std.specs.declared.cmp.Ordering.{Ordering}
use Rattle.std.specs.declared.cmp.Ordering.TheVariants.{Less, Equal, Greater}
use Rattle.std.specs.Ordering.{nat_cmp, match_ordering}
use Rattle.std.specs.Cmp.Lexicographic.{slice_cmp}
use Rattle.std.proofs.lemmas.Bool.{or_parts}
use Rattle.serde_json.specs.Data as json
use Rattle.serde_json.specs.View.{items_of}
use Rattle.serde_json.specs.Written.{has_float, items_have_float, members_have_float}
use Rattle.fv_datum.specs.Data.{Data, null, text, integer, decimal, boolean, date, instant, reference, list, map, optional, Items, no_items, item, Entries, no_entries, entry}
use Rattle.fv_datum.specs.Written.{is_null, key_of, keys_fit, written, items_written, entries_written}
use Rattle.fv_bundle.specs.Bundles.{Thing, Bundled}
use Rattle.fv_bundle.specs.Writing.{datum_json}
use Rattle.fv_model.specs.Writing.{thing_json, bundle_json}
use Rattle.fv_model.proofs.InOrder.{added, objects_added}

neither : (a b : Bool) → a ≡ false → b ≡ false → (a || b) ≡ false
neither a b p q = rw (p, q) refl

-- ---- members and items

ordered : (o : Ordering) (a b c : json.Members) → members_have_float a ≡ false → members_have_float b ≡ false → members_have_float c ≡ false → members_have_float (match_ordering o a b c) ≡ false
ordered Less a b c p q r = p
ordered Equal a b c p q r = q
ordered Greater a b c p q r = r

put_float : (k : List ℕ) (d : json.Data) (ms : json.Members) → has_float d ≡ false → members_have_float ms ≡ false → members_have_float (json.put k d ms) ≡ false
put_float k d json.no_members p q = neither (has_float d) false p refl
put_float k d (json.member l e ms) p q =
    let parts = or_parts (has_float e) _ q in
    ordered (slice_cmp nat_cmp k l) _ _ _ (neither (has_float d) _ p q) (neither (has_float d) _ p parts.1) (neither (has_float e) _ parts.0 (put_float k d ms p parts.1))

abbrev NoFloats : List json.Data → Type 0
NoFloats [] = Unit {0}
NoFloats (d ∷ ds) = (has_float d ≡ false) × NoFloats ds

items_float : (ds : List json.Data) → NoFloats ds → items_have_float (items_of ds) ≡ false
items_float [] h = refl
items_float (d ∷ ds) h = neither (has_float d) _ h.0 (items_float ds h.1)

and_more : (ds : List json.Data) (d : json.Data) → NoFloats ds → has_float d ≡ false → NoFloats (ds ++ d ∷ [])
and_more [] d h p = (p, tt)
and_more (e ∷ ds) d h p = (h.0, and_more ds d h.1 p)

-- ---- data

abbrev SomeFits : {X : Type 0} → (X → Bool) → Option X → Type 0
SomeFits test None = Unit {0}
SomeFits test (Some x) = test x ≡ false

mapped : {X : Type 0} (f : X → json.Data) (test : X → Bool) (o : Option X) → ((x : X) → test x ≡ false → has_float (f x) ≡ false) → SomeFits test o → SomeFits has_float (option_map f o)
mapped f test None keeps h = tt
mapped f test (Some x) keeps h = keeps x h

chained : {X : Type 0} (f : json.Data → Option X) (test : X → Bool) (o : Option json.Data) → ((j : json.Data) → has_float j ≡ false → SomeFits test (f j)) → SomeFits has_float o → SomeFits test (option_and_then f o)
chained f test None keeps h = tt
chained f test (Some j) keeps h = keeps j h

either : (b : Bool) (x y : Option json.Data) → SomeFits has_float x → SomeFits has_float y → SomeFits has_float (cond b x y)
either true x y p q = p
either false x y p q = q

mutual
  datum_float : (d : Data) → SomeFits has_float (written d)
  datum_float null = refl
  datum_float (text s) = refl
  datum_float (integer (pos n)) = refl
  datum_float (integer (negsuc n)) = refl
  datum_float (decimal s) = refl
  datum_float (boolean b) = refl
  datum_float (date s) = refl
  datum_float (instant (pos n)) = refl
  datum_float (instant (negsuc n)) = refl
  datum_float (reference s) = refl
  datum_float (list ds) = mapped json.array items_have_float (items_written [] ds) (λ x h. h) (all_items_float [] ds tt)
  datum_float (map es) = either (keys_fit es) _ _ (mapped json.object members_have_float (entries_written json.no_members es) (λ x h. h) (entries_float json.no_members es refl)) tt
  datum_float (optional d) = either (is_null d) _ _ refl (mapped (λ j. json.array (json.item j json.no_items)) has_float (written d) (λ j h. neither (has_float j) false h refl) (datum_float d))

  all_items_float : (done : List json.Data) (ds : Items) → NoFloats done → SomeFits items_have_float (items_written done ds)
  all_items_float done no_items h = items_float done h
  all_items_float done (item d ds) h = chained (λ j. items_written (done ++ j ∷ []) ds) items_have_float (written d) (λ j p. all_items_float (done ++ j ∷ []) ds (and_more done j h p)) (datum_float d)

  entries_float : (ms : json.Members) (es : Entries) → members_have_float ms ≡ false → SomeFits members_have_float (entries_written ms es)
  entries_float ms no_entries h = h
  entries_float ms (entry k d es) h = chained (λ j. entries_written (json.put (key_of k) j ms) es) members_have_float (written d) (λ j p. entries_float (json.put (key_of k) j ms) es (put_float (key_of k) j ms p h)) (datum_float d)

or_null : (o : Option json.Data) → SomeFits has_float o → has_float (unwrap_or o json.null) ≡ false
or_null None h = refl
or_null (Some j) h = h

pub datum_json_float : (d : Data) → has_float (datum_json d) ≡ false
datum_json_float d = or_null (written d) (datum_float d)

-- ---- bundles

unless : (b : Bool) (x y : json.Members) → members_have_float x ≡ false → members_have_float y ≡ false → members_have_float (cond b x y) ≡ false
unless true x y p q = p
unless false x y p q = q

added_float : (ms : json.Members) (fs : List (List ℕ × Data)) → members_have_float ms ≡ false → members_have_float (added ms fs) ≡ false
added_float ms [] h = h
added_float ms (f ∷ fs) h = added_float (cond (is_null f.1) ms (json.put f.0 (datum_json f.1) ms)) fs (unless (is_null f.1) _ _ h (put_float f.0 (datum_json f.1) ms (datum_json_float f.1) h))

pub fields_float : (fs : List (List ℕ × Data)) → has_float (json.object (added json.no_members fs)) ≡ false
fields_float fs = added_float json.no_members fs refl

thing_float : (t : Thing) → has_float (thing_json t) ≡ false
thing_float t = neither (members_have_float (added json.no_members t.fields)) false (fields_float t.fields) refl

objects_float : (ms : json.Members) (os : List (List ℕ × Thing)) → members_have_float ms ≡ false → members_have_float (objects_added ms os) ≡ false
objects_float ms [] h = h
objects_float ms (o ∷ os) h = objects_float (json.put o.0 (thing_json o.1) ms) os (put_float o.0 (thing_json o.1) ms (thing_float o.1) h)

pub bundle_float : (b : Bundled) → has_float (bundle_json b) ≡ false
bundle_float b = neither (members_have_float (objects_added json.no_members b.objects)) false (objects_float json.no_members b.objects refl) refl
