-- Members whose names ascend.
use Rattle.std.proofs.Common.{◌≡◌, ℕ, List, [], ◌∷◌, map, true, refl}
use Rattle.std.specs.List.Sorted.{IsStrictlySortedBy}
use Rattle.std.specs.Map.{keys_of}
use Rattle.fv_datum.specs.Data.{Data, text, entries_of}
use Rattle.fv_datum.specs.Written.{keys_fit}
use Rattle.fv_datum.specs.Ascending.{IsAscending}

-- entries by their keys' texts
abbrev pub keyed : List (List ℕ × Data) → List (Data × Data)
keyed = map (λ e. (text e.0, e.1))

-- keys that ascend are texts in order
pub keys_in_order : (es : List (List ℕ × Data)) → IsAscending (keys_of es) → keys_fit (entries_of (keyed es)) ≡ true
unfolding IsStrictlySortedBy
keys_in_order [] h = refl
keys_in_order (e ∷ []) h = refl
keys_in_order (e ∷ f ∷ es) h = rw (h.0.0) (keys_in_order (f ∷ es) h.1)
