-- What is found in a value, by what stands in it.
use Rattle.std.proofs.Common.{◌≡◌, ◌≤◌, ◌<◌, ◌⊎◌, inl, inr, ℕ, suc, List, ◌∷◌, map, drop, length, get_or, ◌+◌, add-one, drop-cons, Bool, true, false, cond, if◌then◌else◌, Ordering, Less, Equal, Greater, Option, Some, None, option_map, nat_cmp, max, refl, ap, sym, subst, ◌∙◌, arith}
use Rattle.std.proofs.Math.Nat.{le-max_left, le-max_right}
use Rattle.std.specs.Cmp.Lexicographic.{slice_cmp}
use Rattle.std.specs.List.{find}
use Rattle.std.specs.Option.{option_or}
use Rattle.std.specs.Ordering.{match_ordering}
use Rattle.serde_json.specs.Data as json
use Rattle.serde_json.specs.Find.{get_member, as_array, as_object}
use Rattle.serde_json.specs.View.{view as json_view, items_view}
use Rattle.serde_json.specs.declared.value.Value.{Value}
use Rattle.fv_form.specs.Misfits.{Entry, Form, members, object, Language, Misfit, item, member, lacking, under, here, first_of, of_object, stranger_in, first_misfit, in_items, in_members, in_entry}

-- ---- how deep

found_at : (o : Ordering) (e j : json.Data) (rest : Option json.Data) → match_ordering o rest (Some e) rest ≡ Some j → (rest ≡ Some j) ⊎ (e ≡ j)
found_at Less e j rest is = inl is
found_at Equal e j rest is = inr cc
found_at Greater e j rest is = inl is

-- what stands at a name is no deeper than the members
pub deeper : (k : List ℕ) (ms : json.Members) (j : json.Data) → get_member k ms ≡ Some j → json.depth j ≤ json.members_depth ms
deeper k json.no_members j found = cc
deeper k (json.member l e ms) j found = elim (found_at (slice_cmp nat_cmp k l) e j (get_member k ms) found) [
  | inl more ↦
      let below : json.depth j ≤ json.members_depth ms = deeper k ms j more in
      let most : json.members_depth ms ≤ max (json.depth e) (json.members_depth ms) = le-max_right (json.depth e) (json.members_depth ms) in
      omega arith
  | inr here ↦ rw (← here) (le-max_left (json.depth e) (json.members_depth ms))
]

-- an array is one deeper than its items
pub array_depth : (j : json.Data) (js : json.Items) → as_array j ≡ Some js → json.depth j ≡ suc (json.items_depth js)
array_depth json.null js is = cc
array_depth (json.boolean b) js is = cc
array_depth (json.number n) js is = cc
array_depth (json.string s) js is = cc
array_depth (json.array ks) js is = let same : ks ≡ js = cc in ap (λ (xs : json.Items). suc (json.items_depth xs)) same
array_depth (json.object ms) js is = cc

-- an object is one deeper than its members
pub object_depth : (j : json.Data) (ms : json.Members) → as_object j ≡ Some ms → json.depth j ≡ suc (json.members_depth ms)
object_depth json.null ms is = cc
object_depth (json.boolean b) ms is = cc
object_depth (json.number n) ms is = cc
object_depth (json.string s) ms is = cc
object_depth (json.array js) ms is = cc
object_depth (json.object ns) ms is = let same : ns ≡ ms = cc in ap (λ (xs : json.Members). suc (json.members_depth xs)) same

-- neither the first item nor those behind it are deeper than all
pub items_deep : (j : json.Data) (js left : json.Items) (most : ℕ) → left ≡ json.item j js → json.items_depth left ≤ most → (json.depth j ≤ most) × (json.items_depth js ≤ most)
items_deep j js left most is below =
    let whole : max (json.depth j) (json.items_depth js) ≤ most = subst (λ (n : ℕ). n ≤ most) (ap json.items_depth is) below in
    let first : json.depth j ≤ max (json.depth j) (json.items_depth js) = le-max_left (json.depth j) (json.items_depth js) in
    let rest : json.items_depth js ≤ max (json.depth j) (json.items_depth js) = le-max_right (json.depth j) (json.items_depth js) in
    (omega (arith, whole, first), omega (arith, whole, rest))

-- the same of members
pub members_deep : (k : List ℕ) (j : json.Data) (ms left : json.Members) (most : ℕ) → left ≡ json.member k j ms → json.members_depth left ≤ most → (json.depth j ≤ most) × (json.members_depth ms ≤ most)
members_deep k j ms left most is below =
    let whole : max (json.depth j) (json.members_depth ms) ≤ most = subst (λ (n : ℕ). n ≤ most) (ap json.members_depth is) below in
    let first : json.depth j ≤ max (json.depth j) (json.members_depth ms) = le-max_left (json.depth j) (json.members_depth ms) in
    let rest : json.members_depth ms ≤ max (json.depth j) (json.members_depth ms) = le-max_right (json.depth j) (json.members_depth ms) in
    (omega (arith, whole, first), omega (arith, whole, rest))

-- the items from one of them on
pub items_turn : (vs : List Value) (i : ℕ) (v : Value) → i < length vs → v ≡ get_or vs i v → items_view (drop i vs) ≡ json.item (json_view v) (items_view (drop (i + 1) vs))
items_turn vs i v h is = rw (add-one, drop-cons vs i v h, ← is) refl

-- ---- what is found

pub find_here : {X : Type 0} (t : X → Bool) (x : X) (xs : List X) → t x ≡ true → find t (x ∷ xs) ≡ Some x
find_here t x xs e = ap (λ b. cond b (Some x) (find t xs)) e

pub find_past : {X : Type 0} (t : X → Bool) (x : X) (xs : List X) → t x ≡ false → find t (x ∷ xs) ≡ find t xs
find_past t x xs e = ap (λ b. cond b (Some x) (find t xs)) e

module _ {G : Type 0} (look : Language G) (h : G) where
  -- one item further on, where nothing is found in this one
  pub item_past : (n : ℕ) (j : json.Data) (js left : json.Items) (whole : Option (Misfit G)) → left ≡ json.item j js → first_misfit look h j ≡ None
      → in_items look h n left ≡ whole → in_items look h (n + 1) js ≡ whole
  item_past n j js left whole is none found =
      let next : in_items look h n (json.item j js) ≡ whole = ap (in_items look h n) (sym is) ∙ found in
      rw add-one (ap (λ o. option_or (option_map (under (item n)) o) (in_items look h (suc n) js)) (sym none) ∙ next)

  -- what is found in an item is the first
  pub item_found : (n : ℕ) (j : json.Data) (js left : json.Items) (m : Misfit G) (whole : Option (Misfit G)) → left ≡ json.item j js → first_misfit look h j ≡ Some m
      → in_items look h n left ≡ whole → Some (under (item n) m) ≡ whole
  item_found n j js left m whole is some found =
      ap (λ o. option_or (option_map (under (item n)) o) (in_items look h (suc n) js)) (sym some) ∙ ap (in_items look h n) (sym is) ∙ found

  -- the same of members
  pub member_past : (k : List ℕ) (j : json.Data) (ms left : json.Members) (whole : Option (Misfit G)) → left ≡ json.member k j ms → first_misfit look h j ≡ None
      → in_members look h left ≡ whole → in_members look h ms ≡ whole
  member_past k j ms left whole is none found =
      ap (λ o. option_or (option_map (under (member k)) o) (in_members look h ms)) (sym none) ∙ ap (in_members look h) (sym is) ∙ found

  pub member_found : (k : List ℕ) (j : json.Data) (ms left : json.Members) (m : Misfit G) (whole : Option (Misfit G)) → left ≡ json.member k j ms → first_misfit look h j ≡ Some m
      → in_members look h left ≡ whole → Some (under (member k) m) ≡ whole
  member_found k j ms left m whole is some found =
      ap (λ o. option_or (option_map (under (member k)) o) (in_members look h ms)) (sym some) ∙ ap (in_members look h) (sym is) ∙ found

module _ {G : Type 0} (look : Language G) where
  -- what is wrong with an entry, by the member that there is
  abbrev pub with_member : G → Entry G → Option json.Data → Option (Misfit G)
  with_member g e None = if e.required then Some (here g (lacking e.name)) else None
  with_member g e (Some j) = option_map (under (member e.name)) (first_misfit look e.form j)

  pub entry_found : (g : G) (e : Entry G) (ms : json.Members) (o : Option json.Data) → get_member e.name ms ≡ o → in_entry look g e ms ≡ with_member g e o
  entry_found g e ms o is = by_get ms ∙ ap (with_member g e) is
    where
      at : (o : Ordering) (j : json.Data) (rest : Option (Misfit G)) (found : Option json.Data) → rest ≡ with_member g e found
          → match_ordering o rest (option_map (under (member e.name)) (first_misfit look e.form j)) rest ≡ with_member g e (match_ordering o found (Some j) found)
      at Less j rest found later = later
      at Equal j rest found later = refl
      at Greater j rest found later = later

      by_get : (ms : json.Members) → in_entry look g e ms ≡ with_member g e (get_member e.name ms)
      by_get json.no_members = refl
      by_get (json.member k j ms) = at (slice_cmp nat_cmp e.name k) j (in_entry look g e ms) (get_member e.name ms) (by_get ms)

  pub members_found : (g h : G) (j : json.Data) (ms : json.Members) → as_object j ≡ Some ms → look g j ≡ members h → first_misfit look g j ≡ in_members look h ms
  members_found g h json.null ms is asked = cc
  members_found g h (json.boolean b) ms is asked = cc
  members_found g h (json.number n) ms is asked = cc
  members_found g h (json.string s) ms is asked = cc
  members_found g h (json.array js) ms is asked = cc
  members_found g h (json.object ms') ms is asked =
      let same : ms' ≡ ms = cc in
      ap (λ (form : Form G). of_object g form (λ h. in_members look h ms') (λ es. option_or (stranger_in g es ms') (first_of (map (λ e. in_entry look g e ms') es)))) asked
      ∙ ap (λ (xs : json.Members). in_members look h xs) same

  pub object_found : (g : G) (j : json.Data) (ms : json.Members) (es : List (Entry G)) → as_object j ≡ Some ms → look g j ≡ object es
      → first_misfit look g j ≡ option_or (stranger_in g es ms) (first_of (map (λ e. in_entry look g e ms) es))
  object_found g json.null ms es is asked = cc
  object_found g (json.boolean b) ms es is asked = cc
  object_found g (json.number n) ms es is asked = cc
  object_found g (json.string s) ms es is asked = cc
  object_found g (json.array js) ms es is asked = cc
  object_found g (json.object ms') ms es is asked =
      let same : ms' ≡ ms = cc in
      ap (λ (form : Form G). of_object g form (λ h. in_members look h ms') (λ es. option_or (stranger_in g es ms') (first_of (map (λ e. in_entry look g e ms') es)))) asked
      ∙ ap (λ (xs : json.Members). option_or (stranger_in g es xs) (first_of (map (λ e. in_entry look g e xs) es))) same
