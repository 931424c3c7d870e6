-- JSON values that are the same.
use Rattle.std.specs.Prelude.{◌&&◌, ◌==◌, Bool, true, false, not, is_some}
use Rattle.std.specs.Ordering.{int_eq}
use Rattle.std.specs.Float.Ieee.{eq}
use Rattle.std.specs.Option.{option_map_or}
use Rattle.std.specs.Str.{bytes_eq}
use Rattle.serde_json.specs.Data.{Num, unsigned, negative, float, Data, null, boolean, number, string, array, object, Items, no_items, item, Members, no_members, member}
use Rattle.serde_json.specs.Events.{members_len}
use Rattle.serde_json.specs.Find.{as_null, as_bool, as_number, as_str, as_array, as_object, get_member}

-- numbers without a fraction or an exponent, below 0 or not, or floats that are equal
abbrev pub same_number : Num → Num → Bool
same_number (unsigned m) (unsigned n) = m == n
same_number (negative y) (negative z) = int_eq y z
same_number (float x) (float y) = eq x y
same_number _ _ = false

-- truths that are equal
abbrev pub same_truth : Bool → Bool → Bool
same_truth true b = b
same_truth false b = not b

abbrev mutual
  -- the same number, text or truth, arrays of the same items, or objects with the same at the same names
  pub same : Data → Data → Bool
  same null e = is_some (as_null e)
  same (boolean b) e = option_map_or (same_truth b) (as_bool e) false
  same (number n) e = option_map_or (same_number n) (as_number e) false
  same (string s) e = option_map_or (bytes_eq s) (as_str e) false
  same (array ds) e = option_map_or (same_items ds) (as_array e) false
  same (object ms) e = option_map_or (λ ns. members_len ms == members_len ns && has_members ms ns) (as_object e) false

  -- as many items, each the same
  pub same_items : Items → Items → Bool
  same_items no_items no_items = true
  same_items no_items (item e es) = false
  same_items (item d ds) no_items = false
  same_items (item d ds) (item e es) = same d e && same_items ds es

  -- the second has all members of the first, with the same
  pub has_members : Members → Members → Bool
  has_members no_members ns = true
  has_members (member k d ms) ns = option_map_or (same d) (get_member k ns) false && has_members ms ns

-- objects with as many members, of which the second has all of the first, with the same
abbrev pub same_members : Members → Members → Bool
same_members ms ns = members_len ms == members_len ns && has_members ms ns
