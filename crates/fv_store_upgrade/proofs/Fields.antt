-- The text of a value that is an object.
use Rattle.std.proofs.Common.{◌≡◌, ℕ, List, true, false, Some, None, is_some, refl}
use Rattle.serde_json.specs.Data.{Data, null, boolean, number, string, array, object}
use Rattle.serde_json.specs.Find.{as_object}
use Rattle.serde_json.specs.Written.{compact_text, has_float}
use Rattle.fv_store_upgrade.specs.Upgraded.{fields_in}

pub no_fields : (j : Data) → is_some (as_object j) ≡ false → fields_in j ≡ None
no_fields null none = refl
no_fields (boolean b) none = refl
no_fields (number n) none = refl
no_fields (string s) none = refl
no_fields (array js) none = refl
no_fields (object ms) none = absurd cc

pub broken_fields : (j : Data) → is_some (as_object j) ≡ true → has_float j ≡ true → fields_in j ≡ None
broken_fields null is float = absurd cc
broken_fields (boolean b) is float = absurd cc
broken_fields (number n) is float = absurd cc
broken_fields (string s) is float = absurd cc
broken_fields (array js) is float = absurd cc
broken_fields (object ms) is float = rw float refl

pub whole_fields : (j : Data) → is_some (as_object j) ≡ true → has_float j ≡ false → fields_in j ≡ Some (compact_text j)
whole_fields null is whole = absurd cc
whole_fields (boolean b) is whole = absurd cc
whole_fields (number n) is whole = absurd cc
whole_fields (string s) is whole = absurd cc
whole_fields (array js) is whole = absurd cc
whole_fields (object ms) is whole = rw whole refl
