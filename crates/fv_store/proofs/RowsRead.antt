-- The rows of a well-typed bundle's objects are read as what is written of them.
use Rattle.std.proofs.Common.{◌≡◌, ◌<◌, ◌+◌, ◌++◌, ℕ, List, [], ◌∷◌, false, None, Some, Option, drop, get_or, length, true, is_some, map, option_map, option_and_then, unwrap_or, String, refl, ap, ◌∙◌, add-one, drop-cons}
use Rattle.std.specs.List.{AllByRecursion}
use Rattle.std.specs.Option.{ForSome}
use Rattle.serde_json.specs.Data as json
use Rattle.std.specs.Borrow.{Bor}
use Rattle.std.specs.BTreeMap.{BTreeMap}
use Rattle.std.specs.declared.alloc.Global.{Global}
use Rattle.serde_json.specs.Find.{as_object}
use Rattle.serde_json.specs.View.{members_view}
use Rattle.serde_json.specs.declared.value.Value.{Value}
use Rattle.fv_model.specs.Views.{given_view}
use Rattle.fv_bundle.specs.Bundles.{Thing, Things}
use Rattle.fv_bundle.specs.WellTyped.{FitsType, IsWellTyped}
use Rattle.fv_datum.proofs.Fronts.{with_front, front_more}
use Rattle.fv_datum.specs.Members.{each_some}
use Rattle.fv_model.specs.Writing.{named_written}
use Rattle.fv_bundle.specs.Types.{Declared, has_deep}
use Rattle.fv_store.specs.ReadRows.{row_read}
use Rattle.fv_store.specs.Records.{Kept}
use Rattle.fv_store.specs.Stored.{text_of, text_view}
use Rattle.fv_store.specs.declared.written.Written.{Written}
use Rattle.fv_store.specs.Written.{fields_text, object_kept, written_of, entry_of}
use Rattle.fv_store.proofs.Faults.{same_value}
use Rattle.fv_store.proofs.ReadBack.{fields_back}
use Rattle.fv_store_tables.specs.Stands.{Entry}
use Rattle.fv_store_tables.specs.Stored.{row_view, rows_view, things_view}
use Rattle.fv_store_tables.specs.declared.entry.ObjectRow.{ObjectRow}
use Rattle.fv_store_tables.specs.declared.entry.RecordRows.{RecordRows}

-- ---- one row after another

rows_turn : (rs : List ObjectRow) (i : ℕ) (d : ObjectRow) → i < length rs → things_view (drop i rs) ≡ row_view (get_or rs i d) ∷ things_view (drop (i + 1) rs)
rows_turn rs i d h = rw (add-one, drop-cons rs i d h) refl

pub row_more : (front : List (List ℕ × (List ℕ × json.Members))) (rs : List ObjectRow) (i : ℕ) (d : ObjectRow) (y : List ℕ × (List ℕ × json.Members)) → i < length rs → row_read (row_view (get_or rs i d)) ≡ Some y
    → with_front front (each_some row_read (things_view (drop i rs))) ≡ with_front (front ++ y ∷ []) (each_some row_read (things_view (drop (i + 1) rs)))
row_more front rs i d y h e = rw (rows_turn rs i d h) (front_more row_read front (row_view (get_or rs i d)) (things_view (drop (i + 1) rs)) y e)

-- ---- a row

-- what is read of the row of an object: its name, its type's name and its fields' JSON
abbrev part : List ℕ → List ℕ → json.Members → List ℕ × (List ℕ × json.Members)
part n k fields = (n, (k, fields))

pub read_there : (n k : List ℕ) (o : Option json.Data) (j : json.Data) → o ≡ Some j → is_some (as_object j) ≡ true
    → Some (part n k (unwrap_or (as_object j) json.no_members)) ≡ option_map (part n k) (option_and_then as_object o)
read_there n k o j is there = rw is (at (as_object j) there)
  where
    at : (p : Option json.Members) → is_some p ≡ true → Some (part n k (unwrap_or p json.no_members)) ≡ option_map (part n k) p
    at (Some fields) e = refl
    at None e = cc

pub none_there : (n k : List ℕ) (o : Option json.Data) (j : json.Data) → o ≡ Some j → is_some (as_object j) ≡ false → None ≡ option_map (part n k) (option_and_then as_object o)
none_there n k o j is there = rw is (at (as_object j) there)
  where
    at : (p : Option json.Members) → is_some p ≡ false → None ≡ option_map (part n k) p
    at (Some fields) e = cc
    at None e = refl

pub given_is : (o : Option (Bor (BTreeMap (String Global) Value))) (p : Option json.Members) → option_map (λ m. members_view m.now.entries) o ≡ p → given_view o ≡ unwrap_or p json.no_members
given_is None p is = ap (λ q. unwrap_or q json.no_members) is
given_is (Some m) p is = ap (λ q. unwrap_or q json.no_members) is

-- ---- the rows of a record

row_back : (types : Declared) (all : Things) (o : List ℕ × Thing) → has_deep types ≡ false → FitsType types all o.1 → row_read (object_kept (named_written o)) ≡ Some (named_written o)
unfolding fields_text
row_back types all o few fits =
    ap (λ (r : Option json.Data). option_map (λ fields. (o.0, (o.1.type_name, fields))) (option_and_then as_object r)) (fields_back types all o.1 few fits)

rows_back : (types : Declared) (all os : Things) → has_deep types ≡ false → AllByRecursion (λ o. FitsType types all o.1) os → each_some row_read (map object_kept (map named_written os)) ≡ Some (map named_written os)
rows_back types all [] few fit = refl
rows_back types all (o ∷ os) few fit = rw (row_back types all o few fit.0, rows_back types all os few fit.1) refl

pub root_back : (k : Kept) (rows : RecordRows) → rows_view rows ≡ entry_of (written_of k) → rows.root.now ≡ k.bundle.root
root_back k rows same = ap (λ (e : Entry). e.root) same

pub record_back : (types : Declared) (k : Kept) (rows : RecordRows) → has_deep types ≡ false → IsWellTyped types k.bundle → rows_view rows ≡ entry_of (written_of k)
    → each_some row_read (things_view rows.objects.items) ≡ Some (map named_written k.bundle.objects)
record_back types k rows few well same =
    ap (λ (e : Entry). each_some row_read e.objects) same ∙ rows_back types k.bundle.objects k.bundle.objects few well.typed

-- ---- the text of a record

pub text_if : (w : Written) (rows : RecordRows) (types : Declared) (o : Option Kept) → ((k : Kept) → IsWellTyped types k.bundle → rows_view rows ≡ entry_of (written_of k) → text_view w ≡ text_of k)
    → ForSome o (λ k. IsWellTyped types k.bundle) → Some (rows_view rows) ≡ option_map entry_of (option_map written_of o) → Some (text_view w) ≡ option_map text_of o
text_if w rows types None told each is = cc
text_if w rows types (Some k) told each is = ap (λ t. Some t) (told k (each k refl) (same_value (rows_view rows) (entry_of (written_of k)) is))
