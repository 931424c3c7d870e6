-- What the test of what can be written tells.
use Rattle.std.proofs.Common.{◌≡◌, ◌↔◌, ◌&&◌, List, [], ◌∷◌, ◌++◌, Bool, true, false, cond, Option, Some, None, option_map, option_and_then, is_some, refl, sym, ◌∙◌}
use Rattle.serde_json.specs.Data as json
use Rattle.fv_datum.specs.Data as datum
use Rattle.fv_datum.specs.Data.{Data, Items, no_items, item, Entries, no_entries, entry}
use Rattle.fv_datum.specs.Written.{key_of, keys_fit, is_null, written, items_written, entries_written}
use Rattle.fv_model.specs.Writables.{is_writable, items_writable, entries_writable}
use Rattle.fv_model.specs.Writing.{IsWritten}

some_mapped : {X Y : Type 0} (f : X → Y) (o : Option X) → is_some (option_map f o) ≡ is_some o
some_mapped f (Some x) = refl
some_mapped f None = refl

some_after : {X Y : Type 0} (f : X → Option Y) (o : Option X) (b : Bool) → ((x : X) → is_some (f x) ≡ b) → is_some (option_and_then f o) ≡ (is_some o && b)
some_after f (Some x) b turn = turn x
some_after f None b turn = refl

some_if : {X : Type 0} (c : Bool) (o : Option X) → is_some (cond c o None) ≡ (c && is_some o)
some_if true o = refl
some_if false o = refl

null_writable : (d : Data) (none : Option json.Data) → is_some none ≡ true → is_some (cond (is_null d) none (option_map (λ j. json.array (json.item j json.no_items)) (written d))) ≡ is_some (written d)
null_writable datum.null none some = some
null_writable d none some = some_mapped (λ j. json.array (json.item j json.no_items)) (written d)

mutual
  told : (d : Data) → is_some (written d) ≡ is_writable d
  told (datum.list ds) = some_mapped json.array (items_written [] ds) ∙ items_told [] ds
  told (datum.map es) = some_if (keys_fit es) (option_map json.object (entries_written json.no_members es)) ∙ rw (some_mapped json.object (entries_written json.no_members es), entries_told json.no_members es) refl
  told (datum.optional d) = null_writable d (Some (json.array json.no_items)) refl ∙ told d
  told _ = refl

  items_told : (done : List json.Data) (ds : Items) → is_some (items_written done ds) ≡ items_writable ds
  items_told done no_items = refl
  items_told done (item d ds) = some_after (λ j. items_written (done ++ j ∷ []) ds) (written d) (items_writable ds) (λ j. items_told (done ++ j ∷ []) ds) ∙ rw (told d) refl

  entries_told : (ms : json.Members) (es : Entries) → is_some (entries_written ms es) ≡ entries_writable es
  entries_told ms no_entries = refl
  entries_told ms (entry k d es) = some_after (λ j. entries_written (json.put (key_of k) j ms) es) (written d) (entries_writable es) (λ j. entries_told (json.put (key_of k) j ms) es) ∙ rw (told d) refl

pub writable : (d : Data) → (is_writable d ≡ true) ↔ IsWritten d
writable d = ((λ e. told d ∙ e), (λ is. sym (told d) ∙ is))
