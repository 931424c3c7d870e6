-- The JSON that a datum is written as.
use Rattle.std.specs.Prelude.{ℕ, ◌&&◌, List, [], ◌∷◌, ◌++◌, Bool, true, false, Option, Some, None, Result, option_map, option_and_then, if◌then◌else◌}
use Rattle.std.specs.Option.{ok_or}
use Rattle.std.specs.Ordering.{nat_cmp, is_lt}
use Rattle.std.specs.Cmp.Lexicographic.{slice_cmp}
use Rattle.serde_json.specs.Data as json
use Rattle.serde_json.specs.Find.{of_integer}
use Rattle.serde_json.specs.View.{items_of}
use Rattle.fv_datum.specs.Data.{Data, null, text, integer, decimal, boolean, date, instant, reference, list, map, optional, Items, no_items, item, Entries, no_entries, entry}
use Rattle.fv_datum.specs.declared.fault.DatumFault.{DatumFault}
use Rattle.fv_datum.specs.declared.fault.DatumFault.TheVariants.{WrongKind}

-- the datum is null
abbrev pub is_null : Data → Bool
is_null null = true
is_null _ = false

-- the datum is a text
abbrev pub is_text : Data → Bool
is_text (text s) = true
is_text _ = false

-- the bytes of a key
abbrev pub key_of : Data → List ℕ
key_of (text s) = s
key_of _ = []

-- a key is below the first of the entries after it, by its bytes
abbrev pub below_first : Data → Entries → Bool
below_first k no_entries = true
below_first k (entry l d es) = is_lt (slice_cmp nat_cmp (key_of k) (key_of l))

-- each key is a text, below the next by its bytes
abbrev pub keys_fit : Entries → Bool
keys_fit no_entries = true
keys_fit (entry k d es) = is_text k && below_first k es && keys_fit es

-- the JSON of a datum, none where a map's keys aren't as said
abbrev mutual
  pub written : Data → Option json.Data
  written null = Some json.null
  written (text s) = Some (json.string s)
  written (integer n) = Some (json.number (of_integer n))
  written (decimal s) = Some (json.string s)
  written (boolean b) = Some (json.boolean b)
  written (date s) = Some (json.string s)
  written (instant n) = Some (json.number (of_integer n))
  written (reference s) = Some (json.string s)
  written (list ds) = option_map json.array (items_written [] ds)
  written (map es) = if keys_fit es then option_map json.object (entries_written json.no_members es) else None
  written (optional d) = if is_null d then Some (json.array json.no_items) else option_map (λ j. json.array (json.item j json.no_items)) (written d)

  -- the items, behind those that are written already
  pub items_written : List json.Data → Items → Option json.Items
  items_written done no_items = Some (items_of done)
  items_written done (item d ds) = option_and_then (λ j. items_written (done ++ j ∷ []) ds) (written d)

  -- the entries, put into the members that are written already
  pub entries_written : json.Members → Entries → Option json.Members
  entries_written ms no_entries = Some ms
  entries_written ms (entry k d es) = option_and_then (λ j. entries_written (json.put (key_of k) j ms) es) (written d)

-- the JSON, or that a map's keys aren't texts in order
abbrev pub datum_written : Data → Result json.Data DatumFault
datum_written d = ok_or (written d) WrongKind
