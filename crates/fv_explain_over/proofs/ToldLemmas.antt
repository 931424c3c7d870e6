-- The changes of a document, told in lines.
use Rattle.std.proofs.Common.{◌≡◌, ◌⊎◌, inl, inr, ℕ, List, [], ◌∷◌, map, Some, String, BTreeMap, Global, string_bytes, string_cmp, refl, sym, ap, subst}
use Rattle.std.specs.List.Sorted.{IsStrictlySortedBy}
use Rattle.std.specs.Map.{keys_of}
use Rattle.serde_json.specs.Data.{Data}
use Rattle.fv_datum.specs.EntryNames.{names_of}
use Rattle.fv_datum.specs.Ascending.{IsAscending}
use Rattle.fv_datum.specs.Lookup.{at_name}
use Rattle.fv_datum.proofs.Sorted.{names-ascend}
use Rattle.fv_explain_over.specs.Adding.{Adds, found_view}
use Rattle.fv_explain_over.specs.Changes.{AreChanges, IsChange, LevelsChange, MemberChange}
use Rattle.fv_explain_over.specs.declared.differing.Change.{Change}

-- a change that is found, by its place
abbrev pub seen : String Global × Change → List ℕ × Change
seen e = (string_bytes e.0, e.1)

places : (es : List (String Global × Change)) → map (λ t. t.0) (map seen es) ≡ names_of es
places [] = refl
places (e ∷ es) = ap (λ ks. string_bytes e.0 ∷ ks) (places es)

first_found : (p : List ℕ) (x : Change) (P : Type 0) → (at_name p [] ≡ Some x) ⊎ P → P
first_found p x P (inl none) = (let no : ⊥ = cc in absurd no)
first_found p x P (inr is) = is

-- all that is added to nothing
pub are_changes : (d e : Data) (m : BTreeMap (String Global) Change) → IsStrictlySortedBy string_cmp (keys_of m.entries) → Adds [] (found_view m) (IsChange d e) → AreChanges d e (found_view m)
are_changes d e m sorted adds = record {
  in_order = subst IsAscending (sym (places m.entries)) (names-ascend m.entries sorted);
  sound = λ p x is. first_found p x (IsChange d e p x) (adds.sound p x is);
  complete = adds.complete;
}

-- from nothing on
pub from_nothing : (m : BTreeMap (String Global) Change) (b : List (List ℕ × Change)) (at : List ℕ) (d e : Data) → m.entries ≡ [] → at ≡ [] → Adds (found_view m) b (MemberChange (LevelsChange 5) at (Some d) (Some e)) → Adds [] b (IsChange d e)
from_nothing m b at d e empty first adds =
    subst (λ (a : List (List ℕ × Change)). Adds a b (IsChange d e)) (ap (map seen) empty)
    (subst (λ (t : List ℕ). Adds (found_view m) b (MemberChange (LevelsChange 5) t (Some d) (Some e))) first adds)
