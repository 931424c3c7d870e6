-- What an object has to be by the name at its member `do`.
use Rattle.std.proofs.Common.{◌≡◌, ℕ, List, [], ◌∷◌, map, length, Bool, true, false, ◌&&◌, cond, if◌then◌else◌, Option, Some, None, option_and_then, is_some, unwrap_or, bytes_eq, codes, refl, sym, ap, ◌∙◌}
use Rattle.std.proofs.lemmas.Slice.Eq.{bytes_eq-Decides}
use Rattle.std.specs.List.{AllByRecursion}
use Rattle.std.specs.Option.{option_map_or}
use Rattle.serde_json.specs.Data as json
use Rattle.serde_json.specs.Find.{get_member, as_str}
use Rattle.fv_datum.specs.Forms.{each_item}
use Rattle.fv_datum.specs.Json.{passing}
use Rattle.fv_datum.specs.Lookup.{at_name}
use Rattle.fv_datum.specs.Members.{listed, each_some}
use Rattle.fv_datum.proofs.Lists.{length_read}
use Rattle.fv_engine_command.specs.Commands.{id_in, limit_in}
use Rattle.fv_form.specs.Asked.{asked}
use Rattle.fv_form.specs.Commands.{named, of_any, of_unnamed, is_named, is_part_name, is_command_name, counted_form}
use Rattle.fv_form.specs.Entries.{must}
use Rattle.fv_form.specs.Misfits.{Entry, Form, items, unfit, of_plain, of_array, of_object, in_entry, in_items, in_members}
use Rattle.fv_form.specs.declared.form_name.FormName.{FormName}
use Rattle.fv_form.specs.declared.form_name.FormName.TheVariants as part
use Rattle.fv_form.proofs.Passed.{and_false, sized}
use Rattle.fv_form.proofs.Told.{none_in, or_none, items_told, entry_told, has_known, in_object, object_told, leaf_kept}
use Rattle.fv_form.proofs.Written.{is_kept, in_entries}

-- ---- leaves

pub id_kept : (j : json.Data) → is_kept part.Id j ≡ is_some (id_in j)
id_kept = leaf_kept asked part.Id (λ j. is_some (id_in j)) (λ j. refl)

pub limit_kept : (j : json.Data) → is_kept part.Limit j ≡ is_some (limit_in j)
limit_kept = leaf_kept asked part.Limit (λ j. is_some (limit_in j)) (λ j. refl)

pub part_name_kept : (j : json.Data) → is_kept part.PartName j ≡ is_named is_part_name j
part_name_kept = leaf_kept asked part.PartName (is_named is_part_name) (λ j. refl)

pub command_name_kept : (j : json.Data) → is_kept part.CommandName j ≡ is_named is_command_name j
command_name_kept = leaf_kept asked part.CommandName (is_named is_command_name) (λ j. refl)

-- ---- arrays of so many items

at_count : {X : Type 0} (test : ℕ → Bool) (g h : FormName) (f : json.Data → Option X) → ((j : json.Data) → is_kept h j ≡ is_some (f j)) → (js : json.Items)
    → none_in (of_array g (if test (length (listed js)) then items h else unfit) (λ h. in_items asked h 0 js)) ≡ is_some (option_and_then (passing (λ xs. test (length xs))) (each_some f (listed js)))
at_count test g h f each js =
    by_test (test (length (listed js))) ∙ ap (λ b. test (length (listed js)) && b) (items_told asked h f each 0 js)
    ∙ sym (sized test (length (listed js)) (each_some f (listed js)) (length_read f (listed js)))
  where
    by_test : (b : Bool) → none_in (of_array g (if b then items h else unfit) (λ h. in_items asked h 0 js)) ≡ (b && none_in (in_items asked h 0 js))
    by_test true = refl
    by_test false = refl

pub counted_told : {X : Type 0} (test : ℕ → Bool) (g h : FormName) (f : json.Data → Option X) → ((j : json.Data) → is_kept h j ≡ is_some (f j)) → ((j : json.Data) → asked g j ≡ counted_form test h j)
    → (j : json.Data) → is_kept g j ≡ is_some (option_and_then (passing (λ xs. test (length xs))) (each_item f j))
counted_told test g h f each asks json.null = ap (λ (form : Form FormName). none_in (of_plain g form)) (asks json.null)
counted_told test g h f each asks (json.boolean b) = ap (λ (form : Form FormName). none_in (of_plain g form)) (asks (json.boolean b))
counted_told test g h f each asks (json.number n) = ap (λ (form : Form FormName). none_in (of_plain g form)) (asks (json.number n))
counted_told test g h f each asks (json.string s) = ap (λ (form : Form FormName). none_in (of_plain g form)) (asks (json.string s))
counted_told test g h f each asks (json.array js) = ap (λ (form : Form FormName). none_in (of_array g form (λ h. in_items asked h 0 js))) (asks (json.array js)) ∙ at_count test g h f each js
counted_told test g h f each asks (json.object ms) =
    ap (λ (form : Form FormName). none_in (of_object g form (λ h. in_members asked h ms) (λ es. in_object asked g es ms))) (asks (json.object ms))

-- ---- the name

-- an object has these entries and no others
abbrev pub asks : FormName → json.Members → List (Entry FormName) → Bool
asks g ms es = none_in (in_object asked g es ms)

-- the name that there is
abbrev pub name_in : json.Members → Option (List ℕ)
name_in ms = option_and_then as_str (get_member (codes "do") ms)

pub asks_where : (g : FormName) (es : List (Entry FormName)) (ms : json.Members) (right : Bool) → none_in (in_entries g es ms) ≡ right → asks g ms es ≡ (has_known asked g es ms && right)
asks_where g es ms right is = object_told asked g es ms ∙ ap (λ b. has_known asked g es ms && b) is

named_at : (h : FormName) (test : List ℕ → Bool) → ((j : json.Data) → is_kept h j ≡ is_named test j) → (o : Option json.Data)
    → option_map_or (λ j. is_kept h j) o false ≡ option_map_or test (option_and_then as_str o) false
named_at h test kept None = refl
named_at h test kept (Some j) = kept j

pub name_told : (g h : FormName) (test : List ℕ → Bool) → ((j : json.Data) → is_kept h j ≡ is_named test j) → (ms : json.Members) (o : Option (List ℕ)) → name_in ms ≡ o
    → none_in (in_entry asked g (must (codes "do") h) ms) ≡ option_map_or test o false
name_told g h test kept ms o is =
    entry_told asked g (must (codes "do") h) ms ∙ named_at h test kept (get_member (codes "do") ms) ∙ ap (λ n. option_map_or test n false) is

-- a command's name is one
pub name_kept : (g : FormName) (ms : json.Members) (name word : List ℕ) → name_in ms ≡ Some name → name ≡ word → is_command_name word ≡ true
    → none_in (in_entry asked g named ms) ≡ true
name_kept g ms name word is same known =
    name_told g part.CommandName is_command_name command_name_kept ms (Some name) is ∙ ap is_command_name same ∙ known

first_out : (g : FormName) (e : Entry FormName) (es : List (Entry FormName)) (ms : json.Members) → none_in (in_entry asked g e ms) ≡ false → none_in (in_entries g (e ∷ es) ms) ≡ false
first_out g e es ms out = or_none (in_entry asked g e ms) (in_entries g es ms) ∙ ap (λ b. b && none_in (in_entries g es ms)) out

-- what has no name is none
pub unnamed_out : (g h : FormName) (ms : json.Members) → none_in (in_entry asked g (must (codes "do") h) ms) ≡ false → asks g ms (of_unnamed h) ≡ false
unnamed_out g h ms out =
    asks_where g (of_unnamed h) ms false (first_out g (must (codes "do") h) of_any ms out) ∙ and_false (has_known asked g (of_unnamed h) ms)

-- ---- tables of names: the entries at each, and how it is read

abbrev pub Row : Type 0 → Type 0
Row X = List ℕ × (List (Entry FormName) × (json.Data → Option X))

abbrev pub entries_of : {X : Type 0} → List (Row X) → List (List ℕ × List (Entry FormName))
entries_of rows = map (λ r. (r.0, r.1.0)) rows

abbrev pub readers_of : {X : Type 0} → List (Row X) → List (List ℕ × (json.Data → Option X))
readers_of rows = map (λ r. (r.0, r.1.1)) rows

module _ {X : Type 0} (t : X → Bool) (g : FormName) (others : List (Entry FormName)) (ms : json.Members) (name : List ℕ) where
  -- an object has the entries exactly where it is read, and what is read passes a test
  abbrev Told : Option (List (Entry FormName)) → Option (json.Data → Option X) → Type 0
  Told es f = asks g ms (unwrap_or es others) ≡ option_map_or t (option_and_then (λ form. form (json.object ms)) f) false

  -- the same in a row
  abbrev pub RowTold : Row X → Type 0
  RowTold r = name ≡ r.0 → asks g ms r.1.0 ≡ option_map_or t (r.1.1 (json.object ms)) false

  row_told : (b : Bool) (r : Row X) (es : Option (List (Entry FormName))) (f : Option (json.Data → Option X)) → (b ≡ true → Told (Some r.1.0) (Some r.1.1)) → (b ≡ false → Told es f)
      → Told (cond b (Some r.1.0) es) (cond b (Some r.1.1) f)
  row_told true r es f first later = first refl
  row_told false r es f first later = later refl

  pub rows_told : (rows : List (Row X)) → AllByRecursion RowTold rows → (is_some (at_name name (entries_of rows)) ≡ false → asks g ms others ≡ false)
      → Told (at_name name (entries_of rows)) (at_name name (readers_of rows))
  rows_told [] all out = out refl
  rows_told (r ∷ rows) all out =
      row_told (bytes_eq name r.0) r (at_name name (entries_of rows)) (at_name name (readers_of rows)) (λ is. all.0 ((bytes_eq-Decides name r.0).0 is))
      (λ is. rows_told rows all.1 (λ none. out (ap (λ b. is_some (cond b (Some r.1.0) (at_name name (entries_of rows)))) is ∙ none)))
