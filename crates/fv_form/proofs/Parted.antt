-- The parts of a batch: a value has no misfit exactly where it is read, and its bundle is of the form of one.
use Rattle.std.proofs.Common.{◌≡◌, ℕ, List, [], ◌∷◌, length, Bool, true, false, ◌&&◌, nat_lt, nat_le, Option, Some, None, option_map, option_and_then, is_some, unwrap_or, codes, refl, sym, ap, ◌∙◌}
use Rattle.std.specs.List.{list_all}
use Rattle.std.specs.Option.{option_map_or}
use Rattle.serde_json.specs.Data as json
use Rattle.serde_json.specs.Find.{get, as_array, as_str}
use Rattle.fv_datum.specs.Forms.{each_item, map3, map4, required}
use Rattle.fv_datum.specs.Json.{passing}
use Rattle.fv_datum.specs.Lookup.{at_name}
use Rattle.fv_datum.specs.Members.{listed, has_only, each_some}
use Rattle.fv_engine_command.specs.Commands as command
use Rattle.fv_model.specs.Draft.{BundleDraft, bundle_draft_of}
use Rattle.fv_form.specs.Asked.{asked}
use Rattle.fv_form.specs.Commands.{named, of_put, of_set, of_id, of_unnamed, parts, is_part_name, is_drafted}
use Rattle.fv_form.specs.Entries.{must}
use Rattle.fv_form.specs.Misfits.{in_entry}
use Rattle.fv_form.specs.declared.form_name.FormName.{FormName}
use Rattle.fv_form.specs.declared.form_name.FormName.TheVariants as part
use Rattle.fv_form.proofs.Bundled.{any_kept, bundle_kept}
use Rattle.fv_form.proofs.Naming.{id_kept, part_name_kept, counted_told, asks, name_in, asks_where, name_told, name_kept, unnamed_out, Row, rows_told}
use Rattle.fv_form.proofs.Passed.{any_read, passed, passed_where, passed1, passed4, passed_both, each_passed}
use Rattle.fv_form.proofs.Told.{none_in, none2, none4, none5, must_told}
use Rattle.fv_form.proofs.Written.{is_kept, entry_at, text_kept}

-- ---- each by its entries

put_drafted : (id form : Option (List ℕ)) (bundle : Option json.Data)
    → option_map_or is_drafted (map3 command.put id form bundle) false ≡ (is_some id && (is_some form && is_some (option_and_then bundle_draft_of bundle)))
put_drafted None form bundle = refl
put_drafted (Some id) None bundle = refl
put_drafted (Some id) (Some form) None = refl
put_drafted (Some id) (Some form) (Some bundle) = refl

pub put_right : (g : FormName) (ms : json.Members) → none_in (in_entry asked g named ms) ≡ true → asks g ms of_put ≡ option_map_or is_drafted (command.put_of (json.object ms)) false
put_right g ms known =
    let j = json.object ms in
    let id : Option (List ℕ) = command.id_at j in
    let form : Option (List ℕ) = required as_str (codes "form") j in
    let bundle : Option json.Data = get (codes "bundle") j in
    let draft : Option BundleDraft = required bundle_draft_of (codes "bundle") j in
    let only : Bool = has_only (codes "do" ∷ codes "id" ∷ codes "form" ∷ codes "bundle" ∷ []) j in
    asks_where g of_put ms (is_some id && (is_some form && is_some draft)) (
    none4 (entry_at g ms named) (entry_at g ms (must (codes "id") part.Id)) (entry_at g ms (must (codes "form") part.Text)) (entry_at g ms (must (codes "bundle") part.Bundle))
    true (is_some id) (is_some form) (is_some draft) known
    (must_told asked g (codes "id") part.Id command.id_in id_kept ms)
    (must_told asked g (codes "form") part.Text as_str text_kept ms)
    (must_told asked g (codes "bundle") part.Bundle bundle_draft_of bundle_kept ms))
    ∙ ap (λ b. only && b) (sym (put_drafted id form bundle)) ∙ sym (passed_where is_drafted only (map3 command.put id form bundle))

pub set_right : (g : FormName) (ms : json.Members) → none_in (in_entry asked g named ms) ≡ true → asks g ms of_set ≡ option_map_or is_drafted (command.set_of (json.object ms)) false
set_right g ms known =
    let j = json.object ms in
    let id : Option (List ℕ) = command.id_at j in
    let object : Option (List ℕ) = required as_str (codes "object") j in
    let field : Option (List ℕ) = required as_str (codes "field") j in
    let value : Option json.Data = get (codes "value") j in
    let only : Bool = has_only (codes "do" ∷ codes "id" ∷ codes "object" ∷ codes "field" ∷ codes "value" ∷ []) j in
    asks_where g of_set ms (is_some id && (is_some object && (is_some field && is_some value))) (
    none5 (entry_at g ms named) (entry_at g ms (must (codes "id") part.Id)) (entry_at g ms (must (codes "object") part.Text)) (entry_at g ms (must (codes "field") part.Text)) (entry_at g ms (must (codes "value") part.Any))
    true (is_some id) (is_some object) (is_some field) (is_some value) known
    (must_told asked g (codes "id") part.Id command.id_in id_kept ms)
    (must_told asked g (codes "object") part.Text as_str text_kept ms)
    (must_told asked g (codes "field") part.Text as_str text_kept ms)
    (must_told asked g (codes "value") part.Any (λ k. Some k) any_kept ms ∙ any_read value))
    ∙ ap (λ b. only && b) (sym (passed4 is_drafted command.set (λ a b c d. refl) id object field value))
    ∙ sym (passed_where is_drafted only (map4 command.set id object field value))

-- an object with an id alone
pub id_right : (g : FormName) (ms : json.Members) → none_in (in_entry asked g named ms) ≡ true
    → asks g ms of_id ≡ (has_only (codes "do" ∷ codes "id" ∷ []) (json.object ms) && is_some (command.id_at (json.object ms)))
id_right g ms known =
    let id : Option (List ℕ) = command.id_at (json.object ms) in
    asks_where g of_id ms (is_some id) (
    none2 (entry_at g ms named) (entry_at g ms (must (codes "id") part.Id)) true (is_some id) known
    (must_told asked g (codes "id") part.Id command.id_in id_kept ms))

pub remove_right : (g : FormName) (ms : json.Members) → none_in (in_entry asked g named ms) ≡ true → asks g ms of_id ≡ option_map_or is_drafted (command.remove_of (json.object ms)) false
remove_right g ms known =
    let j = json.object ms in
    let id : Option (List ℕ) = command.id_at j in
    let only : Bool = has_only (codes "do" ∷ codes "id" ∷ []) j in
    id_right g ms known ∙ ap (λ b. only && b) (sym (passed1 is_drafted command.remove (λ a. refl) id))
    ∙ sym (passed_where is_drafted only (option_map command.remove id))

-- ---- a part by its name

abbrev part_rows : List (Row command.Part)
part_rows = (codes "put", (of_put, command.put_of)) ∷ (codes "set", (of_set, command.set_of)) ∷ (codes "remove", (of_id, command.remove_of)) ∷ []

part_told : (ms : json.Members) (o : Option (List ℕ)) → name_in ms ≡ o
    → asks part.Part ms (unwrap_or (option_and_then (λ name. at_name name parts) o) (of_unnamed part.PartName))
    ≡ option_map_or is_drafted (option_and_then (λ name. option_and_then (λ form. form (json.object ms)) (at_name name command.part_forms)) o) false
part_told ms None is = unnamed_out part.Part part.PartName ms (name_told part.Part part.PartName is_part_name part_name_kept ms None is)
part_told ms (Some name) is =
    rows_told is_drafted part.Part (of_unnamed part.PartName) ms name part_rows (
      λ same. put_right part.Part ms (name_kept part.Part ms name (codes "put") is same refl),
      (
        λ same. set_right part.Part ms (name_kept part.Part ms name (codes "set") is same refl),
        (λ same. remove_right part.Part ms (name_kept part.Part ms name (codes "remove") is same refl), tt),
      ),
    )
    (λ none. unnamed_out part.Part part.PartName ms (name_told part.Part part.PartName is_part_name part_name_kept ms (Some name) is ∙ none))

-- a part whose bundle is of the form of one
abbrev drafted_part : json.Data → Option command.Part
drafted_part j = option_and_then (passing is_drafted) (command.part_of j)

pub part_kept : (j : json.Data) → is_kept part.Part j ≡ is_some (drafted_part j)
part_kept json.null = refl
part_kept (json.boolean b) = refl
part_kept (json.number n) = refl
part_kept (json.string s) = refl
part_kept (json.array js) = refl
part_kept (json.object ms) = part_told ms (name_in ms) refl ∙ sym (passed is_drafted (command.part_of (json.object ms)))

-- ---- the parts of a batch

abbrev so_many : List command.Part → Bool
so_many ps = nat_lt 0 (length ps) && nat_le (length ps) 64

abbrev all_drafted : List command.Part → Bool
all_drafted = list_all is_drafted

drafted_items : (j : json.Data) → each_item drafted_part j ≡ option_and_then (passing all_drafted) (each_item command.part_of j)
drafted_items j = go (as_array j)
  where
    go : (o : Option json.Items)
        → option_and_then (λ js. each_some drafted_part (listed js)) o ≡ option_and_then (passing all_drafted) (option_and_then (λ js. each_some command.part_of (listed js)) o)
    go None = refl
    go (Some js) = each_passed is_drafted command.part_of (listed js)

pub parts_kept : (j : json.Data) → is_kept part.Parts j ≡ is_some (option_and_then (passing all_drafted) (command.parts_in j))
parts_kept j =
    counted_told (λ n. nat_lt 0 n && nat_le n 64) part.Parts part.Part drafted_part part_kept (λ k. refl) j
    ∙ ap (λ o. is_some (option_and_then (passing so_many) o)) (drafted_items j)
    ∙ passed_both all_drafted so_many (each_item command.part_of j)
    ∙ sym (passed all_drafted (command.parts_in j))
