-- The built-in messages behind the user's.
use Rattle.std.proofs.Common.{◌≡◌, ◌<◌, ◌≤◌, ◌+◌, ℕ, List, [], ◌∷◌, ◌++◌, map, drop, fold, length, get_or, Bor, Bool, true, false, String, string_bytes, refl, sym, ap, ◌∙◌, zero, suc, cond, not, ◌||◌, Option, Some, None, is_some, bytes_eq, if◌then◌else◌}
use Rattle.std.proofs.lemmas.List.{drop_more, drop_all, map-append}
use Rattle.std.specs.HashMap.{HashMap}
use Rattle.std.specs.List.{list_all}
use Rattle.std.proofs.lemmas.Bool.{and_parts, or_parts, not-false}
use Rattle.std.proofs.lemmas.List.Folds.{list_all-append}
use Rattle.std.specs.Map.{lookup}
use Rattle.std.specs.String.{string_eq}
use Rattle.std.specs.declared.alloc.Global.{Global}
use Rattle.std.specs.declared.hash.FoldHasher.{FoldHasher}
use Rattle.std.specs.declared.hash.BuildHasherDefault.{BuildHasherDefault}
use Rattle.indexmap.specs.IndexMap.{insert_entry}
use Rattle.indexmap.proofs.CallerLemmas.{insert_entry-new}
use Rattle.fv_message.specs.BuiltIn.{built_in_key, built_in_texts, built_in_messages}
use Rattle.fv_message.specs.Judging.{is_misspelt}
use Rattle.fv_message.specs.Table.{Messages, with_message, all_messages}
use Rattle.fv_datum.specs.Lookup.{at_name}
use Rattle.fv_message.specs.Numbers.{AreReadable}
use Rattle.fv_message.specs.Reading.{is_template}
use Rattle.fv_message.specs.Template.{is_parameter_name}
use Rattle.fv_message.specs.Views.{message_view, messages_view, row_view}

-- a row of the table as a message
abbrev pub row_message : Bor (List ℕ) × Bor (List ℕ) → List ℕ × List ℕ
row_message row = (built_in_key row.0.now, row.1.now)

rows_are : (rows : List (Bor (List ℕ) × Bor (List ℕ))) → map row_message rows ≡ map (λ m. (built_in_key m.0, m.1)) (map row_view rows)
rows_are [] = refl
rows_are (r ∷ rows) = ap (λ (l : Messages). row_message r ∷ l) (rows_are rows)

-- one row more
pub row_more : (rows : List (Bor (List ℕ) × Bor (List ℕ))) (ms ms' all : Messages) (i : ℕ) (d : Bor (List ℕ) × Bor (List ℕ)) → i < length rows
    → fold with_message ms (map row_message (drop i rows)) ≡ all → ms' ≡ with_message ms (row_message (get_or rows i d)) → fold with_message ms' (map row_message (drop (i + 1) rows)) ≡ all
row_more rows ms ms' all i d less e f =
    ap (λ (l : Messages). fold with_message l (map row_message (drop (i + 1) rows))) f
    ∙ sym (ap (λ (l : List (Bor (List ℕ) × Bor (List ℕ))). fold with_message ms (map row_message l)) (drop_more rows i d less)) ∙ e

-- all rows
pub rows_all : (rows : List (Bor (List ℕ) × Bor (List ℕ))) (ms user : Messages) (i : ℕ) → length rows ≤ i → map row_view rows ≡ built_in_texts
    → fold with_message ms (map row_message (drop i rows)) ≡ fold with_message user (map row_message rows) → ms ≡ all_messages user
rows_all rows ms user i more are e =
    sym (ap (λ (l : List (Bor (List ℕ) × Bor (List ℕ))). fold with_message ms (map row_message l)) (drop_all i rows more)) ∙ e
    ∙ ap (fold with_message user) (rows_are rows ∙ ap (map (λ m. (built_in_key m.0, m.1))) are)

-- ---- one message more

-- a name has a text
abbrev has_text : Messages → List ℕ → Bool
has_text ms name = is_some (at_name name ms)

-- whether a map has a key
pub key_is : (name : List ℕ) (es : List (String Global × String Global)) → is_some (lookup (λ k. bytes_eq name (string_bytes k)) es) ≡ has_text (map message_view es) name
key_is name [] = refl
key_is name (e ∷ es) = go (bytes_eq name (string_bytes e.0)) (key_is name es)
  where
    go : (b : Bool) → is_some (lookup (λ k. bytes_eq name (string_bytes k)) es) ≡ has_text (map message_view es) name
        → is_some (cond b (Some e.1) (lookup (λ k. bytes_eq name (string_bytes k)) es)) ≡ is_some (cond b (Some (string_bytes e.1)) (at_name name (map message_view es)))
    go true h = refl
    go false h = h

no_value : (o : Option (String Global)) → is_some o ≡ false → o ≡ None
no_value None e = refl
no_value (Some v) e = absurd (cc)

-- what a map answers for a key
pub contains_is : (m : HashMap (String Global) (String Global) (BuildHasherDefault FoldHasher)) (name key : List ℕ) (r : Bool) → r ≡ is_some (lookup (λ k. bytes_eq name (string_bytes k)) m.entries)
    → name ≡ key → has_text (messages_view m) key ≡ r
contains_is m name key r e same = ap (has_text (messages_view m)) (sym same) ∙ sym (key_is name m.entries) ∙ sym e

-- a message whose key has no text
pub message_added : (m n : HashMap (String Global) (String Global) (BuildHasherDefault FoldHasher)) (k v : String Global) (key text : List ℕ) → string_bytes k ≡ key → string_bytes v ≡ text
    → has_text (messages_view m) key ≡ false → n.entries ≡ insert_entry string_eq m.entries k v → messages_view n ≡ with_message (messages_view m) (key, text)
message_added m n k v key text k_is v_is absent e =
    let none : lookup (string_eq k) m.entries ≡ None = no_value (lookup (string_eq k) m.entries) (key_is (string_bytes k) m.entries ∙ ap (has_text (messages_view m)) k_is ∙ absent) in
    rw absent
    (ap (λ (es : List (String Global × String Global)). map message_view es) (e ∙ insert_entry-new string_eq m k v none)
    ∙ map-append message_view m.entries ((k, v) ∷ [])
    ∙ (λ j. messages_view m ++ (k_is j, v_is j) ∷ []))

-- a message whose key has a text
pub message_there : (ms : Messages) (key text : List ℕ) → has_text ms key ≡ true → ms ≡ with_message ms (key, text)
message_there ms key text there = rw there refl

-- ---- texts that are templates

-- whether each text is a template
abbrev pub are_templates : Messages → Bool
are_templates ms = list_all (λ m. is_template m.1) ms

built_in_templates : are_templates built_in_messages ≡ true
unfolding built_in_texts
built_in_templates = refl

with_passing : (test : List ℕ × List ℕ → Bool) (ms : Messages) (m : List ℕ × List ℕ) → list_all test ms ≡ true → test m ≡ true → list_all test (with_message ms m) ≡ true
with_passing test ms m e f = go (has_text ms m.0)
  where
    go : (b : Bool) → list_all test (if b then ms else ms ++ m ∷ []) ≡ true
    go true = e
    go false = list_all-append test ms (m ∷ []) ∙ rw (e, f) refl

-- a test that the user's messages and the built-in ones pass
pub all_passing : (test : List ℕ × List ℕ → Bool) (rows ms : Messages) → list_all test ms ≡ true → list_all test rows ≡ true → list_all test (fold with_message ms rows) ≡ true
all_passing test [] ms e f = e
all_passing test (m ∷ rows) ms e f =
    let parts = and_parts (test m) (list_all test rows) f in
    all_passing test rows (with_message ms m) (with_passing test ms m e parts.0) parts.1

readable_at : (ms : Messages) → are_templates ms ≡ true → AreReadable ms
readable_at [] e i = refl
readable_at (m ∷ ms) e zero = (and_parts (is_template m.1) (are_templates ms) e).0
readable_at (m ∷ ms) e (suc i) = readable_at ms (and_parts (is_template m.1) (are_templates ms) e).1 i

user_templates : (user : Messages) → is_misspelt user ≡ false → are_templates user ≡ true
user_templates [] e = refl
user_templates (m ∷ user) e =
    let parts = or_parts (not (is_template m.1) || not (is_parameter_name m.0)) (is_misspelt user) e in
    let first = not-false (is_template m.1) (or_parts (not (is_template m.1)) (not (is_parameter_name m.0)) parts.0).0 in
    rw (first, user_templates user parts.1) refl

-- where no user's message is misspelt, each text is a template
pub all_readable : (user : Messages) → is_misspelt user ≡ false → AreReadable (all_messages user)
all_readable user e = readable_at (all_messages user) (all_passing (λ m. is_template m.1) built_in_messages user (user_templates user e) built_in_templates)
