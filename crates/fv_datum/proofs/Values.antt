-- JSON values: how many items and members they have, that the names of members ascend, and which value is an array or an object.
use Rattle.std.proofs.Common.{◌≡◌, ℕ, suc, List, [], ◌∷◌, length, Some, String, Global, string_bytes, string_cmp, refl, sym, ap, subst}
use Rattle.std.specs.List.Sorted.{IsStrictlySortedBy}
use Rattle.std.specs.Map.{keys_of}
use Rattle.serde_json.specs.Data as json
use Rattle.serde_json.specs.Find.{as_array, as_object}
use Rattle.serde_json.specs.View.{items_view, members_view}
use Rattle.serde_json.specs.declared.value.Value.{Value}
use Rattle.fv_datum.specs.Ascending.{IsAscending}
use Rattle.fv_datum.specs.EntryNames.{names_of}
use Rattle.fv_datum.specs.Members.{pairs, listed}
use Rattle.fv_datum.proofs.Sorted.{names-ascend}

pub length-items : (vs : List Value) → length (listed (items_view vs)) ≡ length vs
length-items [] = refl
length-items (v ∷ vs) = ap suc (length-items vs)

pub length-members : (es : List (String Global × Value)) → length (pairs (members_view es)) ≡ length es
length-members [] = refl
length-members (e ∷ es) = ap suc (length-members es)

-- members have the names of their entries
pub members_named : (es : List (String Global × Value)) → keys_of (pairs (members_view es)) ≡ names_of es
members_named [] = refl
members_named (e ∷ es) = ap (λ ns. string_bytes e.0 ∷ ns) (members_named es)

-- the members of a value are in order
pub members_ascend : (es : List (String Global × Value)) → IsStrictlySortedBy string_cmp (keys_of es) → IsAscending (keys_of (pairs (members_view es)))
members_ascend es h = subst (λ (ns : List (List ℕ)). IsAscending ns) (sym (members_named es)) (names-ascend es h)

pub array_is : (j : json.Data) (js : json.Items) → Some js ≡ as_array j → j ≡ json.array js
array_is (json.array js) ks e = cc
array_is _ ks e = cc

pub object_is : (j : json.Data) (ms : json.Members) → Some ms ≡ as_object j → j ≡ json.object ms
object_is (json.object ms) ns e = cc
object_is _ ns e = cc
