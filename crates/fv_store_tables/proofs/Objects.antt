-- The objects of a record, one after another.
use Rattle.std.proofs.Common.{◌≡◌, ◌⊎◌, ◌++◌, ◌&&◌, ◌||◌, ◌+◌, ◌≤◌, length, arith, zero, suc, take, map, ℕ, inl, inr, Bool, true, false, cond, bytes_eq, List, [], ◌∷◌, Option, Some, None, refl, sym, ap, ap₂, subst, ◌∙◌, Less, Equal, nat_cmp}
use Rattle.std.specs.Cmp.Lexicographic.{slice_cmp}
use Rattle.std.proofs.lemmas.Bool.{cases_Bool, false_from_ne_true}
use Rattle.std.proofs.lemmas.Cmp.{nat_list_cmp_total, tied_itself}
use Rattle.std.proofs.lemmas.Slice.Eq.{bytes_eq-Decides}
use Rattle.sqlite.specs.Effect.{Database}
use Rattle.sqlite_rules.specs.Lists.{Has}
use Rattle.fv_store_tables.specs.declared.text.ObjectText.{ObjectText}
use Rattle.fv_store_tables.specs.Stands.{Head, ObjectTexts, ObjectKey, Maps, Entry, TableEntries, SpellsTables, IsOwned, same_place, put, added, removed, part_at, head_of, object_texts, tables_of, with_entry, without_entry}
use Rattle.fv_store_tables.specs.Changes.{AllTexts, AreApart, has_name, all_added, written, IsReady, with_object, changed, with_part_of, objects_view}
use Rattle.fv_store_tables.specs.Causes.{HasRooms}
use Rattle.fv_store_tables.proofs.Rooms.{fewer}
use Rattle.fv_store_tables.specs.Steps.{Always, Makes, Turns, UpdatesPart}

pub same_id : (id : List ℕ) → bytes_eq id id ≡ true
same_id id = (bytes_eq-Decides id id).1 refl

pub and_false : (b : Bool) → (b && false) ≡ false
and_false true = refl
and_false false = refl

-- a text below another is another
pub below_apart : (a b : List ℕ) → slice_cmp nat_cmp a b ≡ Less → bytes_eq b a ≡ false
below_apart a b less = false_from_ne_true _ (λ same.
    let is = (bytes_eq-Decides b a).0 same in
    let tied = tied_itself nat_list_cmp_total a in
    let again : slice_cmp nat_cmp a a ≡ Less = subst (λ x. slice_cmp nat_cmp a x ≡ Less) is less in cc (tied, again))

pub all_added-push : (id : List ℕ) (os : AllTexts) (o : List ℕ × ObjectTexts) (t : Maps) → all_added id (os ++ o ∷ []) t ≡ added (id, o.0) o.1 (all_added id os t)
all_added-push id [] o t = refl
all_added-push id (x ∷ os) o t = all_added-push id os o (added (id, x.0) x.1 t)

pub other_name : (id name other : List ℕ) → bytes_eq name other ≡ false → same_place (id, name) (id, other) ≡ false
other_name id name other apart = rw apart (and_false (bytes_eq id id))

-- an object with another name than all that are added is still not there
pub unseen : (id : List ℕ) (os : AllTexts) (name : List ℕ) (t : Maps) → ((o : List ℕ × ObjectTexts) → Has os o → bytes_eq name o.0 ≡ false) → t.parts (id, name) ≡ None → (all_added id os t).parts (id, name) ≡ None
unseen id [] name t apart none = none
unseen id (o ∷ os) name t apart none = unseen id os name (added (id, o.0) o.1 t) (λ x h. apart x (inr h)) (rw (other_name id name o.0 (apart o (inl refl))) none)

-- ---- names apart

pub neither : (a b : Bool) → (a || b) ≡ false → (a ≡ false) × (b ≡ false)
neither true b is = absurd cc
neither false b is = (refl, is)

-- names are apart either way round
pub apart_back : (a b : List ℕ) → bytes_eq a b ≡ false → bytes_eq b a ≡ false
apart_back a b apart = false_from_ne_true _ (λ same. let is = (bytes_eq-Decides b a).0 same in let also = (bytes_eq-Decides a b).1 (sym is) in cc (apart, also))

last_other : (name : List ℕ) (os : AllTexts) (x : List ℕ × ObjectTexts) → has_name name (os ++ x ∷ []) ≡ false → bytes_eq x.0 name ≡ false
last_other name [] x none = (neither (bytes_eq x.0 name) false none).0
last_other name (o ∷ os) x none = last_other name os x (neither (bytes_eq o.0 name) (has_name name (os ++ x ∷ [])) none).1

pub last_apart : (os : AllTexts) (x : List ℕ × ObjectTexts) → AreApart (os ++ x ∷ []) → (o : List ℕ × ObjectTexts) → Has os o → bytes_eq x.0 o.0 ≡ false
last_apart [] x apart o h = absurd h
last_apart (y ∷ os) x apart o (inl is) = subst (λ (e : List ℕ × ObjectTexts). bytes_eq x.0 e.0 ≡ false) (sym is) (last_other y.0 os x apart.0)
last_apart (y ∷ os) x apart o (inr later) = last_apart os x apart.1 o later

none_taken : (name : List ℕ) (n : ℕ) (os : List ObjectText) → has_name name (objects_view os) ≡ false → has_name name (objects_view (take n os)) ≡ false
none_taken name zero os none = refl
none_taken name (suc n) [] none = refl
none_taken name (suc n) (o ∷ os) none =
    let it = neither (bytes_eq o.name.now name) (has_name name (objects_view os)) none in
    rw it.0 (none_taken name n os it.1)

pub apart_taken : (n : ℕ) (os : List ObjectText) → AreApart (objects_view os) → AreApart (objects_view (take n os))
apart_taken zero os apart = tt
apart_taken (suc n) [] apart = tt
apart_taken (suc n) (o ∷ os) apart = (none_taken o.name.now n os apart.0, apart_taken n os apart.1)

-- ---- steps

pub all_taken_in : {X : Type 0} (n : ℕ) (xs : List X) → length xs ≤ n → take n xs ≡ xs
all_taken_in zero [] long = refl
all_taken_in zero (x ∷ xs) long = absurd (omega (arith, long))
all_taken_in (suc n) [] long = refl
all_taken_in (suc n) (x ∷ xs) long = ap (λ l. x ∷ l) (all_taken_in n xs (omega (arith, long)))

-- rooms of one step after another
pub both_rooms : (i j k : ℕ) (x y z : Database) → i + j ≡ k → ((n : ℕ) → HasRooms (n + i) x → HasRooms n y) → ((n : ℕ) → HasRooms (n + j) y → HasRooms n z) → (n : ℕ) → HasRooms (n + k) x → HasRooms n z
both_rooms i j k x y z is one two n room = two n (one (n + j) (fewer (n + j + i) (n + k) (x.trees 1) (omega (arith, is)) room.0, fewer (n + j + i) (n + k) (x.trees 3) (omega (arith, is)) room.1))

-- ---- what the tables keep of records

pub heads_added : (id : List ℕ) (os : AllTexts) (t : Maps) → (all_added id os t).heads ≡ t.heads
heads_added id [] t = refl
heads_added id (o ∷ os) t = heads_added id os (added (id, o.0) o.1 t)

abbrev or_else : Option ObjectTexts → Option ObjectTexts → Option ObjectTexts
or_else None o = o
or_else (Some p) o = Some p

or_none : (o : Option ObjectTexts) → or_else o None ≡ o
or_none None = refl
or_none (Some p) = refl

absent : (name : List ℕ) (os : AllTexts) → has_name name os ≡ false → part_at name os ≡ None
absent name [] none = refl
absent name (o ∷ os) none =
    let it = neither (bytes_eq o.0 name) (has_name name os) none in
    rw (apart_back o.0 name it.0) (absent name os it.1)

-- an object of the record is the one that was added, if one was
parts_added : (id : List ℕ) (os : AllTexts) → AreApart os → (t : Maps) (name : List ℕ) → (all_added id os t).parts (id, name) ≡ or_else (part_at name os) (t.parts (id, name))
parts_added id [] apart t name = refl
parts_added id (o ∷ os) apart t name =
    let later = parts_added id os apart.1 (added (id, o.0) o.1 t) name in
    elim (cases_Bool (bytes_eq name o.0)) [
      | inl same ↦
          let is = (bytes_eq-Decides name o.0).0 same in
          let none : part_at name os ≡ None = subst (λ n. part_at n os ≡ None) (sym is) (absent o.0 os apart.0) in
          rw same (later ∙ rw (none, same_id id, same) refl)
      | inr other ↦ rw other (later ∙ rw (other, and_false (bytes_eq id id)) refl)
    ]

-- those of another record are as before
parts_others : (id : List ℕ) (os : AllTexts) (t : Maps) (at : ObjectKey) → bytes_eq at.0 id ≡ false → (all_added id os t).parts at ≡ t.parts at
parts_others id [] t at other = refl
parts_others id (o ∷ os) t at other = parts_others id os (added (id, o.0) o.1 t) at other ∙ rw other refl

pub both : (a b : Maps) → a.heads ≡ b.heads → ((at : ObjectKey) → a.parts at ≡ b.parts at) → a ≡ b
both a b one two = λ i. record { heads = one i; parts = λ at. two at i }

pub tables_put : (id : List ℕ) (k : Entry) (m : TableEntries) → AreApart k.objects → tables_of (with_entry id k m) ≡ written id (record { form = k.form; root = k.root }) k.objects (tables_of m)
tables_put id k m apart =
    let h : Head = record { form = k.form; root = k.root } in
    let t = put id h (removed id (tables_of m)) in
    let first : (tables_of (with_entry id k m)).heads ≡ t.heads = λ i other. at_head (bytes_eq other id) (m other) i in
    both (tables_of (with_entry id k m)) (all_added id k.objects t)
    (first ∙ sym (heads_added id k.objects t))
    (λ at. elim (cases_Bool (bytes_eq at.0 id)) [
      | inl same ↦
          let is = (bytes_eq-Decides at.0 id).0 same in
          let added_to : (all_added id k.objects t).parts (id, at.1) ≡ part_at at.1 k.objects = parts_added id k.objects apart t at.1 ∙ rw (same_id id) (or_none (part_at at.1 k.objects)) in
          rw same (sym (ap (λ r. (all_added id k.objects t).parts (r, at.1)) is ∙ added_to))
      | inr other ↦ rw other (sym (parts_others id k.objects t at other ∙ rw other refl))
    ])
  where
    at_head : (b : Bool) (o : Option Entry) → head_of (cond b (Some k) o) ≡ cond b (Some (record { form = k.form; root = k.root })) (cond b None (head_of o))
    at_head true o = refl
    at_head false o = refl

pub tables_removed : (id : List ℕ) (m : TableEntries) → tables_of (without_entry id m) ≡ removed id (tables_of m)
tables_removed id m = both (tables_of (without_entry id m)) (removed id (tables_of m)) (λ i other. at_head (bytes_eq other id) (m other) i) (λ at. at_part at.1 (bytes_eq at.0 id) (m at.0))
  where
    at_head : (b : Bool) (o : Option Entry) → head_of (cond b None o) ≡ cond b None (head_of o)
    at_head true o = refl
    at_head false o = refl

    at_part : (name : List ℕ) (b : Bool) (o : Option Entry) → object_texts name (cond b None o) ≡ cond b None (object_texts name o)
    at_part name true o = refl
    at_part name false o = refl

-- each object of records has its record
pub owned : (m : TableEntries) → IsOwned (tables_of m)
owned m at p is = go (m at.0) is
  where
    go : (o : Option Entry) → object_texts at.1 o ≡ Some p → Rattle.std.proofs.Common.IsSome (head_of o)
    go None is = absurd cc
    go (Some k) is = refl

-- ---- an object that is there is changed

set_at : (os : AllTexts) (name n : List ℕ) (p q : ObjectTexts) → part_at name os ≡ Some q → part_at n (with_object name p os) ≡ cond (bytes_eq n name) (Some p) (part_at n os)
set_at [] name n p q is = absurd cc
set_at (o ∷ os) name n p q is = elim (cases_Bool (bytes_eq name o.0)) [
  | inl here ↦
      let key : name ≡ o.0 = (bytes_eq-Decides name o.0).0 here in
      rw (here, key) (twice (bytes_eq n o.0) p o.1 (part_at n os))
  | inr other ↦
      let later = set_at os name n p q (rw other at is) in
      elim (cases_Bool (bytes_eq n o.0)) [
        | inl at_o ↦ elim (cases_Bool (bytes_eq n name)) [
          | inl at_name ↦ absurd (
              let one = (bytes_eq-Decides n o.0).0 at_o in
              let two = (bytes_eq-Decides n name).0 at_name in
              let same = (bytes_eq-Decides name o.0).1 (sym two ∙ one) in cc (same, other))
          | inr not_name ↦ rw (other, at_o, not_name) refl
        ]
        | inr not_o ↦ rw (other, not_o) later
      ]
]
  where
    twice : (b : Bool) (x y : ObjectTexts) (o : Option ObjectTexts) → cond b (Some x) o ≡ cond b (Some x) (cond b (Some y) o)
    twice true x y o = refl
    twice false x y o = refl

pub tables_set : (id name : List ℕ) (p q : ObjectTexts) (m : TableEntries) → object_texts name (m id) ≡ Some q → tables_of (with_part_of id name p m) ≡ added (id, name) p (tables_of m)
tables_set id name p q m has = both (tables_of (with_part_of id name p m)) (added (id, name) p (tables_of m)) (λ i other. at_head (bytes_eq other id) (m other) i) (λ at. elim (cases_Bool (bytes_eq at.0 id)) [
  | inl same ↦
      let is = (bytes_eq-Decides at.0 id).0 same in
      rw same (at_part at.1 (m at.0) (ap (λ i. object_texts name (m i)) is ∙ has))
  | inr other ↦ rw other refl
])
  where
    at_head : (b : Bool) (o : Option Entry) → head_of (cond b (changed name p o) o) ≡ head_of o
    at_head true None = refl
    at_head true (Some k) = refl
    at_head false o = refl

    at_part : (n : List ℕ) (o : Option Entry) → object_texts name o ≡ Some q → object_texts n (changed name p o) ≡ cond (bytes_eq n name) (Some p) (object_texts n o)
    at_part n None none = absurd cc
    at_part n (Some k) there = set_at k.objects name n p q there

-- ---- an object that isn't there isn't changed

unset_at : (os : AllTexts) (name : List ℕ) (p : ObjectTexts) → part_at name os ≡ None → with_object name p os ≡ os
unset_at [] name p none = refl
unset_at (o ∷ os) name p none = elim (cases_Bool (bytes_eq name o.0)) [
  | inl here ↦ absurd (let wrong : Some o.1 ≡ None = rw here at none in cc)
  | inr other ↦ rw other (ap (λ l. o ∷ l) (unset_at os name p (rw other at none)))
]

unchanged : (name : List ℕ) (p : ObjectTexts) (o : Option Entry) → object_texts name o ≡ None → changed name p o ≡ o
unchanged name p None none = refl
unchanged name p (Some k) none = ap (λ (os : AllTexts). Some (record { form = k.form; root = k.root; objects = os })) (unset_at k.objects name p none)

unset : (id name : List ℕ) (p : ObjectTexts) (m : TableEntries) → object_texts name (m id) ≡ None → with_part_of id name p m ≡ m
unset id name p m none = λ i other. go other (cases_Bool (bytes_eq other id)) i
  where
    go : (other : List ℕ) → (bytes_eq other id ≡ true) ⊎ (bytes_eq other id ≡ false) → with_part_of id name p m other ≡ m other
    go other (inl same) = rw same (unchanged name p (m other) (ap (λ k. object_texts name (m k)) ((bytes_eq-Decides other id).0 same) ∙ none))
    go other (inr apart) = rw apart refl

-- ---- what the changes make of the records

pub turns_put : (id : List ℕ) (k : Entry) (i : ℕ) (x y : Database) → Makes i (IsReady k.objects) (written id (record { form = k.form; root = k.root }) k.objects) x y → Turns i (λ _. AreApart k.objects) (with_entry id k) x y
turns_put id k i x y p d m stands apart = let it = p d (tables_of m) stands (apart, owned m) in (subst (SpellsTables y d) (sym (tables_put id k m apart)) it.0, it.1)

pub turns_removed : (id : List ℕ) (x y : Database) → Makes 0 IsOwned (removed id) x y → Turns 0 Always (without_entry id) x y
turns_removed id x y p d m stands _ = let it = p d (tables_of m) stands (owned m) in (subst (SpellsTables y d) (sym (tables_removed id m)) it.0, it.1)

pub turns_set : (id name : List ℕ) (p : ObjectTexts) (count : ℕ) (x y : Database) → UpdatesPart (id, name) p count x y → Turns 0 Always (with_part_of id name p) x y
turns_set id name p count x y made d m stands _ =
    let it = made d (tables_of m) stands in (
      elim it.0 [
        | inl lacks ↦ subst (SpellsTables y d) (sym (ap tables_of (unset id name p m lacks.0))) lacks.2
        | inr set ↦ subst (SpellsTables y d) (sym (tables_set id name p set.0.0 m set.0.1)) set.2
      ],
      λ n room. it.1 n (fewer n (n + 0) (x.trees 1) (omega arith) room.0, fewer n (n + 0) (x.trees 3) (omega arith) room.1),
    )
