-- What changes from a JSON document to another, by places.
use Rattle.std.specs.Prelude.{◌≡◌, ℕ, zero, suc, ◌-◌, ◌<◌, ◌≤◌, List, [], ◌∷◌, ◌++◌, map, length, reverse, drop, Bool, false, Option, Some, None, IsSome, if◌then◌else◌, codes}
use Rattle.std.specs.Option.{option_zip}
use Rattle.serde_json.specs.Data.{Data, Items, Members}
use Rattle.serde_json.specs.Find.{as_array, as_object, get_member}
use Rattle.fv_datum.specs.Ascending.{IsAscending}
use Rattle.fv_datum.specs.Lookup.{at_name}
use Rattle.fv_datum.specs.Members.{listed}
use Rattle.fv_explain_over.specs.Places.{inside, item}
use Rattle.fv_explain_over.specs.Same.{same}
use Rattle.fv_explain_over.specs.declared.differing.Change.{Change}
use Rattle.fv_explain_over.specs.declared.differing.Change.TheVariants.{Added, Changed, Removed}

-- which changes there are, each with the text of its place
abbrev pub Changes : Type 1
Changes = List ℕ → Change → Type 0

-- this change at this place, and no other
abbrev pub Only : List ℕ → Change → Changes
Only at is place change = (place ≡ at) × (change ≡ is)

-- how many items of two arrays are the same in front
abbrev pub same_front : List Data → List Data → ℕ
same_front [] es = 0
same_front (d ∷ ds) [] = 0
same_front (d ∷ ds) (e ∷ es) = if same d e then suc (same_front ds es) else 0

-- how many of the others are the same at the end
abbrev pub same_back : List Data → List Data → ℕ
same_back ds es = same_front (reverse (drop (same_front ds es) ds)) (reverse (drop (same_front ds es) es))

-- what becomes of the item at an index: both arrays have one there before these ends, or the new one alone, or the old one
abbrev pub IsItemChange : ℕ → ℕ → ℕ → Change → Type 0
IsItemChange index old_end new_end Added = (old_end ≤ index) × (index < new_end)
IsItemChange index old_end new_end Changed = (index < old_end) × (index < new_end)
IsItemChange index old_end new_end Removed = (index < old_end) × (new_end ≤ index)

-- at the items of two arrays between those that are the same in front and at the end
abbrev pub ItemsChange : List ℕ → List Data → List Data → Changes
ItemsChange at ds es place change =
    (index : ℕ) × (place ≡ item at index) × (same_front ds es ≤ index)
    × IsItemChange index (length ds - same_back ds es) (length es - same_back ds es) change

-- the same of two arrays, if both are such; else the values have changed as a whole
abbrev pub ArraysChange : List ℕ → Option (Items × Items) → Changes
ArraysChange at None = Only at Changed
ArraysChange at (Some arrays) = ItemsChange at (listed arrays.0) (listed arrays.1)

-- of two other values at a place: by items, or as a whole
abbrev pub WholeChange : List ℕ → Data → Data → Changes
WholeChange at d e = ArraysChange at (option_zip (as_array d) (as_array e))

-- of a member of two objects: the old one alone has it, or the new one alone, or both, where other values change by what is
-- below them
abbrev pub MemberChange : (List ℕ → Data → Data → Changes) → List ℕ → Option Data → Option Data → Changes
MemberChange Below at None None place is = ⊥
MemberChange Below at (Some d) None place is = Only at Removed place is
MemberChange Below at None (Some e) place is = Only at Added place is
MemberChange Below at (Some d) (Some e) place is = (same d e ≡ false) × Below at d e place is

-- of two objects, by the names of their members
abbrev pub MembersChange : (List ℕ → Data → Data → Changes) → List ℕ → Members → Members → Changes
MembersChange Below at ms ns place change =
    (name : List ℕ) × MemberChange Below (inside at name) (get_member name ms) (get_member name ns) place change

-- the same, if both values are objects; else another change
abbrev pub ObjectsChange : (List ℕ → Data → Data → Changes) → List ℕ → Option (Members × Members) → Changes → Changes
ObjectsChange Below at None Whole = Whole
ObjectsChange Below at (Some objects) Whole = MembersChange Below at objects.0 objects.1

-- of two other values at a place: so many levels of objects by their members, and what lies deeper by items, or as a whole
abbrev pub LevelsChange : ℕ → List ℕ → Data → Data → Changes
LevelsChange zero at d e = WholeChange at d e
LevelsChange (suc deeper) at d e =
    ObjectsChange (LevelsChange deeper) at (option_zip (as_object d) (as_object e)) (WholeChange at d e)

-- of a document over another: five members lead to the deepest place
abbrev pub IsChange : Data → Data → Changes
IsChange d e = MemberChange (LevelsChange 5) [] (Some d) (Some e)

-- places with changes are those of a document over another, each place once, in order
pub record AreChanges (d e : Data) (told : List (List ℕ × Change)) : Type 0 where
  pub in_order : IsAscending (map (λ t. t.0) told)
  pub sound : (place : List ℕ) (change : Change) → at_name place told ≡ Some change → IsChange d e place change
  pub complete : (place : List ℕ) (change : Change) → IsChange d e place change → IsSome (at_name place told)

-- a change at a place, in plain text
abbrev pub change_text : List ℕ × Change → List ℕ
change_text (place, Added) = codes "added: " ++ place
change_text (place, Changed) = codes "changed: " ++ place
change_text (place, Removed) = codes "removed: " ++ place

-- the changes of a document over another, a line for each, in the order of the places' texts; in plain text these lines
abbrev pub AreTold : Bool → Data → Data → List (List ℕ) → Type 0
AreTold json d e lines = (told : List (List ℕ × Change)) × (length lines ≡ length told) × (json ≡ false → lines ≡ map change_text told) × AreChanges d e told
