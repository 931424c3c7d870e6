-- The text that is put together from what a bundle's rows keep is the bundle's.
use Rattle.std.proofs.Common.{◌≡◌, ◌<◌, ◌+◌, ◌++◌, ℕ, List, [], ◌∷◌, Bool, true, false, codes, drop, get_or, length, map, refl, sym, ap, ◌∙◌, append_assoc, add-one, drop-cons}
use Rattle.std.specs.Map.{keys_of}
use Rattle.json.specs.Print.{quoted, escape_byte}
use Rattle.serde_json.specs.Data as json
use Rattle.serde_json.specs.Written.{comma_if, compact_text, members_text}
use Rattle.fv_datum.specs.Ascending.{IsAscending}
use Rattle.fv_bundle.specs.Bundles.{Thing, Bundled}
use Rattle.fv_model.specs.Writing.{thing_json, named_written}
use Rattle.fv_model.proofs.InOrder.{members_of, named, objects_in_order}
use Rattle.fv_store.specs.Texts.{bundle_text, object_text, objects_text, rows_text}
use Rattle.fv_store.specs.Written.{fields_text, object_kept}
use Rattle.fv_store.specs.Records.{Kept}
use Rattle.fv_store.specs.Written.{written_of, entry_of}
use Rattle.fv_store_tables.specs.Changes.{AllTexts}
use Rattle.fv_store_tables.specs.Stands.{Entry, ObjectTexts}
use Rattle.fv_store_tables.specs.Stored.{row_view, rows_view, things_view}
use Rattle.fv_store_tables.specs.declared.entry.ObjectRow.{ObjectRow}
use Rattle.fv_store_tables.specs.declared.entry.RecordRows.{RecordRows}

-- what the rows keep of objects
abbrev pub kept : List (List ℕ × Thing) → AllTexts
kept os = map object_kept (map named_written os)

object_is : (name : List ℕ) (t : Thing) (rest : List ℕ) → quoted name ++ 58 ∷ (compact_text (thing_json t) ++ rest) ≡ object_text (object_kept (named_written (name, t))) ++ rest
unfolding escape_byte fields_text
object_is name t rest = sym (append_assoc (quoted name) (58 ∷ compact_text (thing_json t)) rest)

members_are : (later : Bool) (os : List (List ℕ × Thing)) → members_text later (members_of (map named os)) ≡ objects_text (comma_if later) (kept os) ++ codes "}"
members_are later [] = refl
members_are later (o ∷ os) =
    let text = object_text (object_kept (named_written o)) in
    let behind = objects_text (codes ",") (kept os) in
    ap (λ s. comma_if later ++ s) (object_is o.0 o.1 (members_text true (members_of (map named os))) ∙ ap (λ s. text ++ s) (members_are true os) ∙ sym (append_assoc text behind (codes "}")))
    ∙ sym (append_assoc (comma_if later) (text ++ behind) (codes "}"))

pub text_is : (b : Bundled) → IsAscending (keys_of b.objects) → rows_text b.root (kept b.objects) ≡ bundle_text b
unfolding escape_byte bundle_text
text_is b ascending =
    let behind = codes ",\"root\":" ++ (quoted b.root ++ codes "}") in
    sym (
    ap (λ ms. compact_text (json.object (json.member (codes "objects") (json.object ms) (json.member (codes "root") (json.string b.root) json.no_members)))) (objects_in_order b.objects ascending)
    ∙ ap (λ s. codes "{\"objects\":{" ++ (s ++ behind)) (members_are false b.objects)
    ∙ ap (λ s. codes "{\"objects\":{" ++ s) (append_assoc (objects_text [] (kept b.objects)) (codes "}") behind))

-- what is put together of a record's rows
pub kept_text : (k : Kept) (rows : RecordRows) (text : List ℕ) → text ≡ rows_text rows.root.now (things_view rows.objects.items) → IsAscending (keys_of k.bundle.objects)
    → rows_view rows ≡ entry_of (written_of k) → text ≡ bundle_text k.bundle
kept_text k rows text is ascending same = is ∙ ap (λ (e : Entry). rows_text e.root e.objects) same ∙ text_is k.bundle ascending

-- one object more
one_behind : (left front after new : List ℕ) (o : List ℕ × ObjectTexts) (os : AllTexts) → after ≡ left ++ front → new ≡ after ++ object_text o
    → new ++ objects_text (codes ",") os ≡ left ++ objects_text front (o ∷ os)
one_behind left front after new o os pushed added =
    let text = object_text o in
    let behind = objects_text (codes ",") os in
    rw (added, pushed) (append_assoc (left ++ front) text behind ∙ append_assoc left front (text ++ behind))

-- one object more of those from a place on
pub one_more : (all : List ObjectRow) (i : ℕ) (d : ObjectRow) (left front after new : List ℕ) → i < length all → after ≡ left ++ front → new ≡ after ++ object_text (row_view (get_or all i d))
    → new ++ objects_text (codes ",") (things_view (drop (i + 1) all)) ≡ left ++ objects_text front (things_view (drop i all))
one_more all i d left front after new h pushed added =
    let turn : drop i all ≡ get_or all i d ∷ drop (i + 1) all = rw (add-one, drop-cons all i d h) refl in
    one_behind left front after new (row_view (get_or all i d)) (things_view (drop (i + 1) all)) pushed added ∙ ap (λ os. left ++ objects_text front (things_view os)) (sym turn)
