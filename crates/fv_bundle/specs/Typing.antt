-- Whether data, objects and bundles are of what is declared, as tests; for private clauses.
use Rattle.std.specs.Prelude.{ℕ, suc, ◌&&◌, List, [], ◌∷◌, length, Bool, true, false, nat_le, Option, Some, None, is_some}
use Rattle.std.specs.List.{list_all}
use Rattle.std.specs.Map.{keys_of}
use Rattle.std.specs.Option.{option_map_or}
use Rattle.std.specs.Ordering.{nat_cmp, is_lt}
use Rattle.std.specs.Cmp.Lexicographic.{slice_cmp}
use Rattle.std.specs.Str.{bytes_eq}
use Rattle.fv_datum.specs.Data.{Data, null, text, integer, decimal, boolean, date, instant, reference, list, map, optional, Items, no_items, item, Entries, no_entries, entry}
use Rattle.fv_datum.specs.Days.{is_date}
use Rattle.fv_datum.specs.Decimals.{is_decimal}
use Rattle.fv_datum.specs.Json.{is_of_64_bits}
use Rattle.fv_datum.specs.Lookup.{at_name}
use Rattle.fv_datum.specs.Moments.{is_moment}
use Rattle.fv_datum.specs.Name.{names}
use Rattle.fv_datum.specs.Written.{key_of, keys_fit}
use Rattle.fv_bundle.specs.Held.{target, items, values, content}
use Rattle.fv_bundle.specs.TypeLimits.{longest_text, most_entries}
use Rattle.fv_bundle.specs.Types.{TypeUse, texts, integers, decimals, booleans, dates, instants, DeclaredFields, Declared}
use Rattle.fv_bundle.specs.Bundles.{Thing, Things, Bundled}
use Rattle.fv_bundle.specs.Limits.{most_objects}

-- which names a reference to an object of a type may have
abbrev pub Naming : Type 0
Naming = List ℕ → List ℕ → Bool

-- those of the objects of the type among these; any where there are none to look among
abbrev pub naming : Option Things → Naming
naming None type name = true
naming (Some os) type name = option_map_or (λ t. bytes_eq t.type_name type) (at_name name os) false

-- how many items
abbrev pub items_count : Items → ℕ
items_count no_items = 0
items_count (item d ds) = suc (items_count ds)

-- how many entries
abbrev pub entries_count : Entries → ℕ
entries_count no_entries = 0
entries_count (entry k d es) = suc (entries_count es)

-- a datum is null or of a type use, within the limits
abbrev mutual
  pub fits_use : Naming → TypeUse → Data → Bool
  fits_use N u null = true
  fits_use N texts (text s) = nat_le (length s) longest_text
  fits_use N integers (integer n) = is_of_64_bits n
  fits_use N decimals (decimal s) = is_decimal s
  fits_use N booleans (boolean b) = true
  fits_use N dates (date s) = is_date s
  fits_use N instants (instant n) = is_moment n
  fits_use N u (reference name) = option_map_or (λ type. names name && N type name) (target u) false
  fits_use N u (list ds) = option_map_or (λ held. nat_le (items_count ds) most_entries && items_fit N held ds) (items u) false
  fits_use N u (map es) = option_map_or (λ held. nat_le (entries_count es) most_entries && (keys_fit es && entries_fit N held es)) (values u) false
  fits_use N u (optional d) = option_map_or (λ held. fits_use N held d) (content u) false
  fits_use N u d = false

  -- each item is
  pub items_fit : Naming → TypeUse → Items → Bool
  items_fit N held no_items = true
  items_fit N held (item d ds) = fits_use N held d && items_fit N held ds

  -- each value is, and no key is too long
  pub entries_fit : Naming → TypeUse → Entries → Bool
  entries_fit N held no_entries = true
  entries_fit N held (entry k d es) = nat_le (length (key_of k)) longest_text && (fits_use N held d && entries_fit N held es)

-- each field of a type, in order, with a datum that fits
abbrev pub fields_fit : Naming → DeclaredFields → List (List ℕ × Data) → Bool
fields_fit N [] [] = true
fields_fit N (d ∷ ds) (f ∷ fs) = bytes_eq f.0 d.0 && (fits_use N d.1 f.1 && fields_fit N ds fs)
fields_fit N _ _ = false

-- an object of a declared type
abbrev pub thing_fits : Naming → Declared → Thing → Bool
thing_fits N ts t = option_map_or (λ ds. fields_fit N ds t.fields) (at_name t.type_name ts) false

-- a name is above the one before, if there is one
abbrev pub is_above : Option (List ℕ) → List ℕ → Bool
is_above None name = true
is_above (Some last) name = is_lt (slice_cmp nat_cmp last name)

-- names ascend behind one
abbrev pub ascend_behind : Option (List ℕ) → List (List ℕ) → Bool
ascend_behind last [] = true
ascend_behind last (n ∷ ns) = is_above last n && ascend_behind (Some n) ns

-- an object of a name, of a declared type
abbrev pub is_named_thing : Naming → Declared → List ℕ × Thing → Bool
is_named_thing N ts o = names o.0 && thing_fits N ts o.1

-- at most 256 objects, each by a name, once and in order, which the root is one of, each of a declared type
abbrev pub is_well_typed : Declared → Bundled → Bool
is_well_typed ts b = nat_le (length b.objects) most_objects && (is_some (at_name b.root b.objects)
    && (ascend_behind None (keys_of b.objects) && list_all (is_named_thing (naming (Some b.objects)) ts) b.objects))
