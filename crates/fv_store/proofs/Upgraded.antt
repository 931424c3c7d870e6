-- What rows of version 1 keep of well-typed records is what tables of version 2 keep of them.
use Rattle.std.proofs.Common.{◌≡◌, ℕ, List, [], ◌∷◌, codes, map, false, Option, Some, None, option_map, option_and_then, refl, ap, ◌∙◌}
use Rattle.std.proofs.Math.Path.{fun_ext}
use Rattle.std.specs.List.{AllByRecursion}
use Rattle.serde_json.specs.Data as json
use Rattle.serde_json.specs.Data.{Num, unsigned, negative, float, Data, null, boolean, number, string, array, object, Items, no_items, item, Members, no_members, member}
use Rattle.serde_json.specs.Find.{is_float}
use Rattle.serde_json.specs.Written.{has_float, items_have_float, members_have_float}
use Rattle.fv_datum.specs.Members.{pairs, each_some}
use Rattle.fv_datum.proofs.PlainJson.{IsWhole, IsPlain, ArePlainItems, ArePlain}
use Rattle.fv_bundle.specs.Types.{Declared, has_deep}
use Rattle.fv_bundle.specs.Bundles.{Thing, Things, Bundled}
use Rattle.fv_bundle.specs.WellTyped.{FitsType, IsWellTyped}
use Rattle.fv_model.specs.Writing.{fields_json, bundle_json, named_written}
use Rattle.fv_model.proofs.InOrder.{members_of, named, Named, objects_in_order}
use Rattle.fv_store.proofs.ReadBack.{bundle_back, fields_plain}
use Rattle.fv_store.specs.Records.{Kept, Records}
use Rattle.fv_store.specs.Stands.{old_of, olds}
use Rattle.fv_store.specs.Written.{entries, fields_text, object_kept, written_of, writings}
use Rattle.fv_store.specs.Written as kept
use Rattle.fv_store_upgrade.specs.Upgraded.{bundle_in, entry_in, upgraded_entry, object_in, upgraded}

-- ---- plain JSON has no number that isn't whole

whole_number : (n : Num) → IsWhole n → is_float n ≡ false
whole_number (unsigned n) h = refl
whole_number (negative z) h = refl
whole_number (float x) h = absurd h

mutual
  whole : (d : Data) → IsPlain d → has_float d ≡ false
  whole null h = refl
  whole (boolean b) h = refl
  whole (number n) h = whole_number n h
  whole (string s) h = refl
  whole (array ds) h = items_whole ds h
  whole (object ms) h = members_whole ms h.0

  items_whole : (ds : Items) → ArePlainItems ds → items_have_float ds ≡ false
  items_whole no_items h = refl
  items_whole (item d ds) h = rw (whole d h.0) (items_whole ds h.1)

  members_whole : (ms : Members) → ArePlain ms → members_have_float ms ≡ false
  members_whole no_members h = refl
  members_whole (member k d ms) h = rw (whole d h.0) (members_whole ms h.1)

-- ---- objects

object_back : (types : Declared) (all : Things) (o : List ℕ × Thing) → has_deep types ≡ false → FitsType types all o.1 → object_in (named o) ≡ Some (object_kept (named_written o))
unfolding fields_text
object_back types all o shallow fits = rw (members_whole (fields_json o.1.fields) (fields_plain types all o.1 shallow fits)) refl

objects_back : (types : Declared) (all os : Things) → has_deep types ≡ false → AllByRecursion (λ o. FitsType types all o.1) os → each_some object_in (map named os) ≡ Some (map object_kept (map named_written os))
objects_back types all [] shallow fit = refl
objects_back types all (o ∷ os) shallow fit = rw (object_back types all o shallow fit.0, objects_back types all os shallow fit.1) refl

pairs_back : (es : List Named) → pairs (members_of es) ≡ es
pairs_back [] = refl
pairs_back (e ∷ es) = ap (λ l. e ∷ l) (pairs_back es)

-- ---- records

bundle_is : (types : Declared) (b : Bundled) → has_deep types ≡ false → IsWellTyped types b → bundle_in (bundle_json b) ≡ Some (b.root, map object_kept (map named_written b.objects))
bundle_is types b shallow typed =
    let os = b.objects in
    let inside : each_some object_in (pairs (members_of (map named os))) ≡ Some (map object_kept (map named_written os)) = rw (pairs_back (map named os)) (objects_back types os os shallow typed.typed) in
    ap (λ ms. bundle_in (json.object (json.member (codes "objects") (json.object ms) (json.member (codes "root") (json.string b.root) json.no_members)))) (objects_in_order b.objects typed.ascending)
    ∙ rw inside refl

record_is : (types : Declared) (k : Kept) → has_deep types ≡ false → IsWellTyped types k.bundle → entry_in (old_of k) ≡ Some (kept.entry_of (written_of k))
record_is types k shallow typed =
    ap (λ o. option_map (upgraded_entry k.form) (option_and_then bundle_in o)) (bundle_back types k.bundle shallow typed)
    ∙ ap (option_map (upgraded_entry k.form)) (bundle_is types k.bundle shallow typed)

pub upgraded_olds : (types : Declared) (m : Records) → has_deep types ≡ false → ((id : List ℕ) (k : Kept) → m id ≡ Some k → IsWellTyped types k.bundle) → upgraded (olds m) ≡ entries (writings m)
upgraded_olds types m shallow typed = fun_ext (λ id. at (m id) (typed id))
  where
    at : (o : Option Kept) → ((k : Kept) → o ≡ Some k → IsWellTyped types k.bundle) → option_and_then entry_in (option_map old_of o) ≡ option_map kept.entry_of (option_map written_of o)
    at None all = refl
    at (Some k) all = record_is types k shallow (all k refl)
