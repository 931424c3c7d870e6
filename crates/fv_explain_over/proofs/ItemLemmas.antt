-- Adding the changes of items.
use Rattle.std.proofs.Common.{◌≡◌, ◌⊎◌, inl, inr, ℕ, ◌+◌, ◌-◌, ◌<◌, ◌≤◌, max, List, [], ◌∷◌, map, length, take, drop, reverse, Option, Some, OnOk, Result, refl, sym, ap, ap₂, subst, ◌∙◌, arith, take_all, length-drop}
use Rattle.std.specs.Option.{option_zip}
use Rattle.std.proofs.lemmas.Bool.{cases_lt}
use Rattle.std.proofs.lemmas.List.{drop-map, length-map}
use Rattle.serde_json.specs.Data.{Data, Items}
use Rattle.serde_json.specs.Find.{as_array}
use Rattle.serde_json.specs.View.{view, items_of, items_view}
use Rattle.serde_json.specs.declared.value.Value.{Value}
use Rattle.fv_datum.specs.Members.{listed}
use Rattle.fv_explain_over.specs.Adding.{Adds}
use Rattle.fv_explain_over.specs.Changes.{ArraysChange, IsItemChange, ItemsChange, Only, WholeChange, same_front, same_back}
use Rattle.fv_explain_over.specs.Places.{item}
use Rattle.fv_explain_over.specs.declared.differing.Change.{Change}
use Rattle.fv_explain_over.specs.declared.differing.Change.TheVariants.{Added, Changed, Removed}
use Rattle.fv_explain_over.proofs.AddLemmas.{Told, adds_as, adds_then, adds_none}

-- the changes of items up to an index
abbrev pub ItemsUpTo : List ℕ → ℕ → ℕ → ℕ → ℕ → List ℕ → Change → Type 0
ItemsUpTo at front end old_end new_end place change =
    (i : ℕ) × (place ≡ item at i) × (front ≤ i) × (i < end) × IsItemChange i old_end new_end change

module _ (at : List ℕ) (front old_end new_end : ℕ) where
  -- at first there are none
  pub no_items_yet : (a : Told) → Adds a a (ItemsUpTo at front front old_end new_end)
  no_items_yet a = adds_none a _ (λ p x r. omega (arith, r.2, r.3))

  module _ (index : ℕ) (place : List ℕ) (x : Change) (is : place ≡ item at index) (behind : front ≤ index) (item_is : IsItemChange index old_end new_end x) where
    there : (p : List ℕ) (y : Change) → ItemsUpTo at front index old_end new_end p y ⊎ Only place x p y → ItemsUpTo at front (index + 1) old_end new_end p y
    there p y (inl r) = (r.0, r.1, r.2, omega (arith, r.3), r.4)
    there p y (inr r) = (index, r.0 ∙ is, behind, omega arith, subst (λ (z : Change). IsItemChange index old_end new_end z) (sym r.1) item_is)

    back : (p : List ℕ) (y : Change) → ItemsUpTo at front (index + 1) old_end new_end p y → (z : Change) × (ItemsUpTo at front index old_end new_end p z ⊎ Only place x p z)
    back p y r =
        elim (cases_lt r.0 index) [
          | inl less ↦ (y, inl (r.0, r.1, r.2, less, r.4))
          | inr more ↦ (let same : r.0 ≡ index = omega (arith, r.3, more) in (x, inr (r.1 ∙ ap (item at) same ∙ sym is, refl)))
        ]

    -- one more is added
    pub item_added : (a b c : Told) → Adds a b (ItemsUpTo at front index old_end new_end) → Adds b c (Only place x) → Adds a c (ItemsUpTo at front (index + 1) old_end new_end)
    item_added a b c first second = adds_as a c _ _ there back (adds_then a b c _ _ first second)

within : (i old_end new_end : ℕ) (x : Change) → IsItemChange i old_end new_end x → i < max old_end new_end
within i old_end new_end Added h = omega (arith, h.0, h.1)
within i old_end new_end Changed h = omega (arith, h.0, h.1)
within i old_end new_end Removed h = omega (arith, h.0, h.1)

rest_seen : (vs : List Value) (n : ℕ) → map view (take (length vs - n) (drop n vs)) ≡ drop n (map view vs)
rest_seen vs n = ap (map view) (take_all (length vs - n) (drop n vs) (omega (arith, length-drop n vs))) ∙ sym (drop-map view n vs)

module _ (vs ws : List Value) (front back : ℕ) (front_is : front ≡ same_front (map view vs) (map view ws)) where
  -- those at the end are of the arrays behind the front
  pub back_is : back ≡ same_front (reverse (map view (take (length vs - front) (drop front vs)))) (reverse (map view (take (length ws - front) (drop front ws))))
      → back ≡ same_back (map view vs) (map view ws)
  back_is is =
      is ∙ ap₂ (λ xs ys. same_front (reverse xs) (reverse ys)) (rest_seen vs front) (rest_seen ws front)
      ∙ ap (λ n. same_front (reverse (drop n (map view vs))) (reverse (drop n (map view ws)))) front_is

  -- all are added
  pub items_added : (a b : Told) (at : List ℕ) (index : ℕ) → back ≡ same_back (map view vs) (map view ws) → max (length vs - back) (length ws - back) ≤ index
      → Adds a b (ItemsUpTo at front index (length vs - back) (length ws - back)) → Adds a b (ItemsChange at (map view vs) (map view ws))
  items_added a b at index is end adds =
      let old_end : length vs - back ≡ length (map view vs) - same_back (map view vs) (map view ws) = ap₂ (λ m n. m - n) (sym (length-map vs view)) is in
      let new_end : length ws - back ≡ length (map view ws) - same_back (map view vs) (map view ws) = ap₂ (λ m n. m - n) (sym (length-map ws view)) is in
      adds_as a b _ _
      (λ p x r. (r.0, r.1, subst (λ n. n ≤ r.0) front_is r.2, subst (λ m. IsItemChange r.0 m (length (map view ws) - same_back (map view vs) (map view ws)) x) old_end (subst (λ n. IsItemChange r.0 (length vs - back) n x) new_end r.4)))
      (λ p x r.
      let ends = subst (λ m. IsItemChange r.0 m (length ws - back) x) (sym old_end) (subst (λ n. IsItemChange r.0 (length (map view vs) - same_back (map view vs) (map view ws)) n x) (sym new_end) r.3) in
      (x, (r.0, r.1, subst (λ n. n ≤ r.0) (sym front_is) r.2, omega (arith, within r.0 (length vs - back) (length ws - back) x ends, end), ends)))
      adds

-- ---- of arrays that are values

listed_items : (ds : List Data) → listed (items_of ds) ≡ ds
listed_items [] = refl
listed_items (d ∷ ds) = ap (λ es. d ∷ es) (listed_items ds)

-- the changes of the items of two values are those of the values
pub whole_items : {E : Type 0} (r : Result (Unit {0}) E) (a b : Told) (at text : List ℕ) (d e : Data) (vs ws os ns : List Value) → text ≡ at → os ≡ vs → ns ≡ ws
    → Some (items_view vs) ≡ as_array d → Some (items_view ws) ≡ as_array e
    → OnOk r (Adds a b (ItemsChange text (map view os) (map view ns))) → OnOk r (Adds a b (WholeChange at d e))
whole_items r a b at text d e vs ws os ns same_text same_old same_new is also adds =
    let P : Option Items → Option Items → Type 0 = λ o p. OnOk r (Adds a b (ArraysChange at (option_zip o p))) in
    let old : map view os ≡ listed (items_view vs) = ap (map view) same_old ∙ sym (listed_items (map view vs)) in
    let new : map view ns ≡ listed (items_view ws) = ap (map view) same_new ∙ sym (listed_items (map view ws)) in
    let here : P (Some (items_view vs)) (Some (items_view ws)) =
    subst (λ (ds : List Data). OnOk r (Adds a b (ItemsChange at ds (listed (items_view ws))))) old
    (subst (λ (es : List Data). OnOk r (Adds a b (ItemsChange at (map view os) es))) new
    (subst (λ (t : List ℕ). OnOk r (Adds a b (ItemsChange t (map view os) (map view ns)))) same_text adds)) in
    subst (λ o. P o (as_array e)) is (subst (λ p. P (Some (items_view vs)) p) also here)
