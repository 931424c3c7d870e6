-- The objects of a record that is there are replaced: what the statements make of the tables, one after another.
use Rattle.std.proofs.Common.{◌≡◌, ◌≢◌, ◌⊎◌, ◌++◌, ◌&&◌, ◌||◌, ◌+◌, ◌<◌, length, arith, zero, suc, take, ℕ, ℤ, inl, inr, Bool, true, false, cond, bytes_eq, List, [], ◌∷◌, Option, Some, None, IsSome, Ok, Err, Result, OnOk, IfErr, IsTrue, refl, sym, ap, subst, ◌∙◌}
use Rattle.std.proofs.lemmas.Bool.{cases_Bool}
use Rattle.std.proofs.lemmas.List.{map-append}
use Rattle.std.proofs.lemmas.Slice.Eq.{bytes_eq-Decides}
use Rattle.sqlite.specs.Effect.{Database}
use Rattle.sqlite.specs.Order.{Row}
use Rattle.sqlite.specs.declared.error.Error.{Error}
use Rattle.sqlite.specs.State.{State, HasCleanDisk}
use Rattle.sqlite_rules.specs.Lists.{Has}
use Rattle.sqlite_rules.proofs.ListLemmas.{has_right}
use Rattle.sqlite_rules.proofs.ProbeLemmas.{mapped_has}
use Rattle.fv_store_tables.specs.declared.entry.FoundRow.{FoundRow}
use Rattle.fv_store_tables.specs.declared.text.ObjectText.{ObjectText}
use Rattle.fv_store_tables.specs.Stands.{Head, ObjectTexts, ObjectKey, Maps, SpellsTables, Frame, IsOwned, same_place, put, added, dropped, removed, without_parts}
use Rattle.fv_store_tables.specs.Changes.{AllTexts, AreApart, names_of, same_object, has_object, all_added, others_dropped, has_name, replaced, dropped_unless_kept, written, found_object, found_objects, object_view, objects_view, IsFree, IsNew}
use Rattle.fv_store_tables.specs.Causes.{HasRooms, IsExcused, IsShortHead, IsShortPart, AreShort}
use Rattle.fv_store_tables.specs.Steps.{Advances, Anyhow, Makes, Lacks, LacksPart, ArePartsOf, IsThere, AreThere, UpdatesPart, UpdatesRow}
use Rattle.fv_store_tables.proofs.Removes.{zero_is_not_one}
use Rattle.fv_store_tables.proofs.Objects.{other_name, last_apart, apart_taken, all_added-push, both_rooms, both, heads_added}
use Rattle.fv_store_tables.proofs.Layouts.{parts}
use Rattle.fv_store_tables.proofs.Composed.{fewer_rooms, owned_all, short_taken, short_last}
use Rattle.fv_store_tables.proofs.Drops.{owned_dropped}
use Rattle.fv_store_tables.proofs.Writes.{owned_put}
use Rattle.fv_store_tables.proofs.Steps.{led, led_on_ok, frame_then, failed_then}

-- ---- one object: the UPDATE, and where it counts 0 the INSERT

pub part_new : (at : ObjectKey) (p : ObjectTexts) (x y z : Database) → UpdatesPart at p 0 x y → Makes 1 (LacksPart at) (added at p) y z → Makes 1 Anyhow (added at p) x z
part_new at p x y z u q d t spelled _ =
    let it = u d t spelled in
    elim it.0 [
      | inl lacks ↦ let made = q d t lacks.2 lacks.0 in (made.0, λ n room. made.1 n (it.1 (n + 1) room))
      | inr some ↦ absurd (zero_is_not_one some.1)
    ]

pub part_in_place : (old new : State) (at : ObjectKey) (p : ObjectTexts) (count : ℕ) → count ≢ 0 → Advances old new (UpdatesPart at p count) → Advances old new (Makes 1 Anyhow (added at p))
part_in_place old new at p count some updated = record {
  was_open = updated.was_open;
  mode = updated.mode;
  committed = updated.committed;
  change = λ d t spelled _.
      let it = updated.change d t spelled in (
        elim it.0 [ inl none ↦ absurd (some none.1) | inr made ↦ made.2 ],
        λ n room. it.1 n (fewer_rooms n (n + 1) old.now (omega arith) room),
      );
}

-- the UPDATE by the rowid, and where it counts 0 both of these
pub row_missed : (n : ℤ) (at : ObjectKey) (p : ObjectTexts) (x y z : Database) → UpdatesRow n at p 0 x y → Makes 1 Anyhow (added at p) y z → Makes 1 Anyhow (added at p) x z
row_missed n at p x y z u q d t spelled _ =
    let it = u d t spelled in
    elim it.0 [
      | inl lacks ↦ let made = q d t lacks.2 tt in (made.0, λ k room. made.1 k (it.1 (k + 1) room))
      | inr some ↦ absurd (zero_is_not_one some.1)
    ]

pub row_in_place : (old new : State) (n : ℤ) (at : ObjectKey) (p : ObjectTexts) (count : ℕ) → count ≢ 0 → Advances old new (UpdatesRow n at p count) → Advances old new (Makes 1 Anyhow (added at p))
row_in_place old new n at p count some updated = record {
  was_open = updated.was_open;
  mode = updated.mode;
  committed = updated.committed;
  change = λ d t spelled _.
      let it = updated.change d t spelled in (
        elim it.0 [ inl none ↦ absurd (some none.1) | inr made ↦ made.2 ],
        λ k room. it.1 k (fewer_rooms k (k + 1) old.now (omega arith) room),
      );
}

-- the UPDATE by the rowid changed no row and what followed was refused
pub row_missed_cause : (a b c : State) (n : ℤ) (at : ObjectKey) (p : ObjectTexts) → HasCleanDisk c → Frame a b → Frame b c → Advances a b (UpdatesRow n at p 0) → (r : Result ℕ Error)
    → IfErr r (λ e. (d : List Row) (t : Maps) → SpellsTables b.now d t → IsOwned t → IsSome (t.heads at.0) → HasRooms 1 b.now → IsShortPart at p → IsExcused b c e)
    → IfErr r (λ e. (d : List Row) (t : Maps) → SpellsTables a.now d t → IsOwned t → IsSome (t.heads at.0) → HasRooms 1 a.now → IsShortPart at p → IsExcused a c e)
row_missed_cause a b c n at p clean before after updated (Ok count) h = tt
row_missed_cause a b c n at p clean before after updated (Err e) h = λ d t spelled owned has room short refused.
    let it = updated.change d t spelled in
    elim it.0 [
      | inl none ↦ failed_then a b c (after.clean clean) before after.counts (h d t none.2 owned has (it.1 1 room) short refused)
      | inr some ↦ absurd (zero_is_not_one some.1)
    ]

-- the UPDATE changed no row and the INSERT was refused
pub part_new_cause : (a b c : State) (at : ObjectKey) (p : ObjectTexts) → HasCleanDisk c → Frame a b → Frame b c → Advances a b (UpdatesPart at p 0) → (r : Result ℕ Error)
    → IfErr r (λ e. (d : List Row) (t : Maps) → SpellsTables b.now d t → IsOwned t → LacksPart at t → IsSome (t.heads at.0) → HasRooms 1 b.now → IsShortPart at p → IsExcused b c e)
    → IfErr r (λ e. (d : List Row) (t : Maps) → SpellsTables a.now d t → IsOwned t → IsSome (t.heads at.0) → HasRooms 1 a.now → IsShortPart at p → IsExcused a c e)
part_new_cause a b c at p clean before after updated (Ok count) h = tt
part_new_cause a b c at p clean before after updated (Err e) h = λ d t spelled owned has room short refused.
    let it = updated.change d t spelled in
    elim it.0 [
      | inl none ↦ failed_then a b c (after.clean clean) before after.counts (h d t none.2 owned none.0 has (it.1 1 room) short refused)
      | inr some ↦ absurd (zero_is_not_one some.1)
    ]

-- ---- one object after another

-- an object with another name than all that are added is as before
pub unmoved : (id : List ℕ) (os : AllTexts) (name : List ℕ) (t : Maps) → ((o : List ℕ × ObjectTexts) → Has os o → bytes_eq name o.0 ≡ false) → (all_added id os t).parts (id, name) ≡ t.parts (id, name)
unmoved id [] name t apart = refl
unmoved id (o ∷ os) name t apart = unmoved id os name (added (id, o.0) o.1 t) (λ x h. apart x (inr h)) ∙ rw (other_name id name o.0 (apart o (inl refl))) refl

taken_has : {X : Type 0} (n : ℕ) (xs : List X) (x : X) → Has (take n xs) x → Has xs x
taken_has zero xs x h = absurd h
taken_has (suc n) [] x h = absurd h
taken_has (suc n) (y ∷ xs) x (inl is) = inl is
taken_has (suc n) (y ∷ xs) x (inr later) = inr (taken_has n xs x later)

-- the next object is still there, if it was
there_next : (id : List ℕ) (there : AllTexts) (all : List ObjectText) (i : ℕ) (o : ObjectText) → take (i + 1) all ≡ take i all ++ o ∷ [] → (t : Maps) → AreThere id there (objects_view all) t
    → IsThere id there (object_view o) (all_added id (objects_view (take i all)) t)
there_next id there all i o more t are has =
    let before = objects_view (take i all) in
    let pushed : objects_view (take (i + 1) all) ≡ before ++ object_view o ∷ [] = ap objects_view more ∙ map-append object_view (take i all) (o ∷ []) in
    let apart : AreApart (before ++ object_view o ∷ []) = subst AreApart pushed (apart_taken (i + 1) all are.0) in
    let among : Has all o = taken_has (i + 1) all o (subst (λ l. Has l o) (sym more) (has_right (take i all) (o ∷ []) o (inl refl))) in
    unmoved id before o.name.now t (last_apart before (object_view o) apart) ∙ are.1 (object_view o) (mapped_has object_view all o among) has

pub part_more : (id : List ℕ) (there : AllTexts) (all : List ObjectText) (i : ℕ) (o : ObjectText) → take (i + 1) all ≡ take i all ++ o ∷ [] → (x y z : Database)
    → Makes i (AreThere id there (objects_view all)) (all_added id (objects_view (take i all))) x y → Makes 1 (IsThere id there (object_view o)) (added (id, (object_view o).0) (object_view o).1) y z
    → Makes (i + 1) (AreThere id there (objects_view all)) (all_added id (objects_view (take (i + 1) all))) x z
part_more id there all i o more x y z p q d t spelled are =
    let before = objects_view (take i all) in
    let pushed : objects_view (take (i + 1) all) ≡ before ++ object_view o ∷ [] = ap objects_view more ∙ map-append object_view (take i all) (o ∷ []) in
    let one = p d t spelled are in
    let two = q d (all_added id before t) one.0 (there_next id there all i o more t are) in
    (subst (SpellsTables z d) (sym (ap (λ os. all_added id os t) pushed ∙ all_added-push id before (object_view o) t)) two.0, both_rooms i 1 (i + 1) x y z refl one.1 two.1)

-- an object is written, whatever was known
pub part_written : (a b : State) (at : ObjectKey) (p : ObjectTexts) (Applies : Maps → Type 0) → Advances a b (Makes 1 Anyhow (added at p)) → Advances a b (Makes 1 Applies (added at p))
part_written a b at p Applies = led a b (λ x y made d t spelled _. made d t spelled tt)

pub anyhow : {X : Type 0} (a b : State) (at : ObjectKey) (p : ObjectTexts) (Applies : Maps → Type 0) (r : Result X Error) → OnOk r (Advances a b (Makes 1 Anyhow (added at p))) → OnOk r (Advances a b (Makes 1 Applies (added at p)))
anyhow a b at p Applies r = led_on_ok a b r (λ x y made d t spelled _. made d t spelled tt)

-- the same as a row that was found is the same as one of the rows
same_among : (there : List FoundRow) (r : FoundRow) → Has there r → (o : List ℕ × ObjectTexts) → has_object o (found_object r ∷ []) ≡ true → has_object o (found_objects there) ≡ true
same_among [] r h o is = absurd h
same_among (x ∷ there) r (inl same) o is = go (same_object (found_object x) o) (subst (λ (e : FoundRow). has_object o (found_object e ∷ []) ≡ true) same is)
  where
    go : (b : Bool) → (b || false) ≡ true → (b || has_object o (found_objects there)) ≡ true
    go true is = refl
    go false is = absurd cc
same_among (x ∷ there) r (inr later) o is = rw (same_among there r later o is) (go (same_object (found_object x) o))
  where
    go : (b : Bool) → (b || true) ≡ true
    go true = refl
    go false = refl

pub part_over : {X : Type 0} (a b : State) (id : List ℕ) (there : List FoundRow) (r : FoundRow) → Has there r → (o : List ℕ × ObjectTexts) (answer : Result X Error)
    → OnOk answer (Advances a b (Makes 1 (IsThere id (found_object r ∷ []) o) (added (id, o.0) o.1))) → OnOk answer (Advances a b (Makes 1 (IsThere id (found_objects there) o) (added (id, o.0) o.1)))
part_over a b id there r among o answer = led_on_ok a b answer (λ x y made d t spelled is. made d t spelled (λ same. is (same_among there r among o same)))

-- no change yet
pub begun : (s : State) (change : Maps → Maps) → ((t : Maps) → change t ≡ t) → IsTrue s.in_transaction → Advances s s (Makes 0 Anyhow change)
begun s change same inside = record {
  was_open = λ live. live;
  mode = inside;
  committed = refl;
  change = λ d t spelled _. (subst (SpellsTables s.now d) (sym (same t)) spelled, λ n room. fewer_rooms n (n + 0) s.now (omega arith) room);
}

-- an object whose name is among the new ones stays
pub not_dropped : (s : State) (id : List ℕ) (os : AllTexts) (name : List ℕ) → has_name name os ≡ true → IsTrue s.in_transaction → Advances s s (Makes 0 Anyhow (dropped_unless_kept id os name))
not_dropped s id os name has inside = begun s (dropped_unless_kept id os name) (λ t. rw has refl) inside

-- another is taken out
pub unkept_dropped : {X : Type 0} (a b : State) (id : List ℕ) (os : AllTexts) (name : List ℕ) → has_name name os ≡ false → (r : Result X Error)
    → OnOk r (Advances a b (Makes 0 Anyhow (dropped (id, name)))) → OnOk r (Advances a b (Makes 0 Anyhow (dropped_unless_kept id os name)))
unkept_dropped a b id os name has r = led_on_ok a b r (λ x y p d t spelled _. let it = p d t spelled tt in let gone : dropped_unless_kept id os name t ≡ dropped (id, name) t = rw has refl in (subst (SpellsTables y d) (sym gone) it.0, it.1))

-- some objects were written and the next was refused
pub parts_cause : (a b c : State) (id : List ℕ) (there : AllTexts) (all : List ObjectText) (i : ℕ) (o : ObjectText) → i < length all → take (i + 1) all ≡ take i all ++ o ∷ [] → HasCleanDisk c → Frame a b → Frame b c
    → Advances a b (Makes i (AreThere id there (objects_view all)) (all_added id (objects_view (take i all)))) → (e : Error)
    → ((d : List Row) (t : Maps) → SpellsTables b.now d t → IsOwned t → IsSome (t.heads id) → HasRooms 1 b.now → IsShortPart (id, (object_view o).0) (object_view o).1 → IsExcused b c e)
    → (d : List Row) (t : Maps) → SpellsTables a.now d t → AreThere id there (objects_view all) t → IsOwned t → IsSome (t.heads id) → HasRooms (length all) a.now → AreShort id (objects_view all) → IsExcused a c e
parts_cause a b c id there all i o below more clean before after made e h d t spelled are own has room short refused =
    let os = objects_view (take i all) in
    let it = made.change d t spelled are in
    let pushed : objects_view (take (i + 1) all) ≡ os ++ object_view o ∷ [] = ap objects_view more ∙ map-append object_view (take i all) (o ∷ []) in
    let one : IsShortPart (id, (object_view o).0) (object_view o).1 = short_last id os (object_view o) (subst (AreShort id) pushed (short_taken id (i + 1) all short)) in
    let headed : IsSome ((all_added id os t).heads id) = subst IsSome (sym (ap (λ (f : List ℕ → Option Head). f id) (heads_added id os t))) has in
    failed_then a b c (after.clean clean) before after.counts
    (h d (all_added id os t) it.0 (owned_all id os t own has) headed (it.1 1 (fewer_rooms (1 + i) (length all) a.now (omega arith) room)) one refused)

-- ---- those that are not among the new ones are taken out

pub others_dropped-push : (id : List ℕ) (os : AllTexts) (names : List (List ℕ)) (name : List ℕ) (t : Maps) → others_dropped id os (names ++ name ∷ []) t ≡ dropped_unless_kept id os name (others_dropped id os names t)
others_dropped-push id os [] name t = refl
others_dropped-push id os (n ∷ names) name t = others_dropped-push id os names name (dropped_unless_kept id os n t)

-- a name more
pub dropped_more : (id : List ℕ) (os : AllTexts) (there : List FoundRow) (i : ℕ) (r : FoundRow) → take (i + 1) there ≡ take i there ++ r ∷ [] → (x y z : Database)
    → Makes 0 Anyhow (others_dropped id os (names_of (found_objects (take i there)))) x y → Makes 0 Anyhow (dropped_unless_kept id os (found_object r).0) y z → Makes 0 Anyhow (others_dropped id os (names_of (found_objects (take (i + 1) there)))) x z
dropped_more id os there i r more x y z p q d t spelled _ =
    let before = found_objects (take i there) in
    let names = names_of before in
    let pushed : names_of (found_objects (take (i + 1) there)) ≡ names ++ (found_object r).0 ∷ [] =
    ap (λ l. names_of (found_objects l)) more ∙ ap names_of (map-append found_object (take i there) (r ∷ [])) ∙ map-append (λ (e : List ℕ × ObjectTexts). e.0) before (found_object r ∷ []) in
    let one = p d t spelled tt in
    let two = q d (others_dropped id os names t) one.0 tt in
    (subst (SpellsTables z d) (sym (ap (λ ns. others_dropped id os ns t) pushed ∙ others_dropped-push id os names (found_object r).0 t)) two.0, both_rooms 0 0 0 x y z refl one.1 two.1)

owned_unless_kept : (id : List ℕ) (os : AllTexts) (name : List ℕ) (t : Maps) → IsOwned t → IsOwned (dropped_unless_kept id os name t)
owned_unless_kept id os name t owned = go (has_name name os)
  where
    go : (b : Bool) → IsOwned (cond b t (dropped (id, name) t))
    go true = owned
    go false = owned_dropped (id, name) t owned

pub owned_others_dropped : (id : List ℕ) (os : AllTexts) (names : List (List ℕ)) (t : Maps) → IsOwned t → IsOwned (others_dropped id os names t)
owned_others_dropped id os [] t owned = owned
owned_others_dropped id os (name ∷ names) t owned = owned_others_dropped id os names (dropped_unless_kept id os name t) (owned_unless_kept id os name t owned)

heads_dropped : (id : List ℕ) (os : AllTexts) (names : List (List ℕ)) (t : Maps) → (others_dropped id os names t).heads ≡ t.heads
heads_dropped id os [] t = refl
heads_dropped id os (name ∷ names) t = heads_dropped id os names (dropped_unless_kept id os name t) ∙ go (has_name name os)
  where
    go : (b : Bool) → (cond b t (dropped (id, name) t)).heads ≡ t.heads
    go true = refl
    go false = refl

-- ---- what is left then

-- another record's objects are as before
parts_elsewhere : (id : List ℕ) (os : AllTexts) (names : List (List ℕ)) (t : Maps) (at : ObjectKey) → bytes_eq at.0 id ≡ false → (others_dropped id os names t).parts at ≡ t.parts at
parts_elsewhere id os [] t at other = refl
parts_elsewhere id os (name ∷ names) t at other = parts_elsewhere id os names (dropped_unless_kept id os name t) at other ∙ go (has_name name os)
  where
    go : (b : Bool) → (cond b t (dropped (id, name) t)).parts at ≡ t.parts at
    go true = refl
    go false = rw other refl

-- of the record's objects none is left but those among the new ones
parts_left : (id : List ℕ) (os : AllTexts) (names : List (List ℕ)) (t : Maps) → ((name : List ℕ) → (t.parts (id, name) ≡ None) ⊎ (has_name name os ≡ true) ⊎ Has names name)
    → (name : List ℕ) → ((others_dropped id os names t).parts (id, name) ≡ None) ⊎ (has_name name os ≡ true)
parts_left id os [] t each name = elim (each name) [ inl none ↦ inl none | inr (inl has) ↦ inr has | inr (inr never) ↦ absurd never ]
parts_left id os (n ∷ names) t each name = parts_left id os names (dropped_unless_kept id os n t) (λ other. next other (each other)) name
  where
    still_none : (other : List ℕ) (b : Bool) → t.parts (id, other) ≡ None → (cond b t (dropped (id, n) t)).parts (id, other) ≡ None
    still_none other true none = none
    still_none other false none = go (same_place (id, other) (id, n))
      where
        go : (b : Bool) → cond b None (t.parts (id, other)) ≡ None
        go true = refl
        go false = none

    this_one : (other : List ℕ) (b : Bool) → has_name n os ≡ b → other ≡ n → ((cond b t (dropped (id, n) t)).parts (id, other) ≡ None) ⊎ (has_name other os ≡ true)
    this_one other true has is = inr (ap (λ m. has_name m os) is ∙ has)
    this_one other false has is = inl (let same : same_place (id, other) (id, n) ≡ true = (parts.decides (id, other) (id, n)).1 (ap (λ m. (id, m)) is) in rw same refl)

    next : (other : List ℕ) → (t.parts (id, other) ≡ None) ⊎ (has_name other os ≡ true) ⊎ Has (n ∷ names) other → ((dropped_unless_kept id os n t).parts (id, other) ≡ None) ⊎ (has_name other os ≡ true) ⊎ Has names other
    next other (inl none) = inl (still_none other (has_name n os) none)
    next other (inr (inl has)) = inr (inl has)
    next other (inr (inr (inl is))) = elim (this_one other (has_name n os) refl is) [ inl none ↦ inl none | inr has ↦ inr (inl has) ]
    next other (inr (inr (inr later))) = inr (inr later)

-- what is added covers what two maps have under its names
agree : (id : List ℕ) (os : AllTexts) (t u : Maps) → t.heads ≡ u.heads → ((at : ObjectKey) → (t.parts at ≡ u.parts at) ⊎ ((at.0 ≡ id) × (has_name at.1 os ≡ true))) → all_added id os t ≡ all_added id os u
agree id [] t u hs each = both t u hs (λ at. elim (each at) [ inl same ↦ same | inr never ↦ absurd (let wrong = never.1 in cc) ])
agree id (o ∷ os) t u hs each = agree id os (added (id, o.0) o.1 t) (added (id, o.0) o.1 u) hs (λ at. go at (each at) (cases_Bool (same_place at (id, o.0))))
  where
    go : (at : ObjectKey) → (t.parts at ≡ u.parts at) ⊎ ((at.0 ≡ id) × (has_name at.1 (o ∷ os) ≡ true)) → (same_place at (id, o.0) ≡ true) ⊎ (same_place at (id, o.0) ≡ false)
        → ((added (id, o.0) o.1 t).parts at ≡ (added (id, o.0) o.1 u).parts at) ⊎ ((at.0 ≡ id) × (has_name at.1 os ≡ true))
    go at e (inl here) = inl (rw here refl)
    go at (inl same) (inr other) = inl (rw other same)
    go at (inr named) (inr other) = elim (cases_Bool (bytes_eq o.0 at.1)) [
      | inl is ↦ absurd (
          let name : o.0 ≡ at.1 = (bytes_eq-Decides o.0 at.1).0 is in
          let here : same_place at (id, o.0) ≡ true = (parts.decides at (id, o.0)).1 (pair at.0 id at.1 o.0 named.0 (sym name)) in cc (here, other))
      | inr apart ↦ inr (named.0, rw apart at named.1)
    ]
      where
        pair : (a b c e : List ℕ) → a ≡ b → c ≡ e → ◌≡◌ {A = ObjectKey} (a, c) (b, e)
        pair a b c e p q = λ i. (p i, q i)

pub dropped_added : (id : List ℕ) (os : AllTexts) (names : List (List ℕ)) (t : Maps) → ((name : List ℕ) (p : ObjectTexts) → t.parts (id, name) ≡ Some p → Has names name) → all_added id os (others_dropped id os names t) ≡ replaced id os t
dropped_added id os names t complete =
    agree id os (others_dropped id os names t) (record { heads = t.heads; parts = without_parts id t.parts }) (heads_dropped id os names t) (λ at. elim (cases_Bool (bytes_eq at.0 id)) [
      | inr other ↦ inl (rw other (parts_elsewhere id os names t at other))
      | inl same ↦
          let is : at.0 ≡ id = (bytes_eq-Decides at.0 id).0 same in
          elim (parts_left id os names t (λ name. known name (t.parts (id, name)) refl) at.1) [
            | inl none ↦ inl (rw same (subst (λ k. (others_dropped id os names t).parts (k, at.1) ≡ None) (sym is) none))
            | inr has ↦ inr (is, has)
          ]
    ])
  where
    known : (name : List ℕ) (o : Option ObjectTexts) → t.parts (id, name) ≡ o → (t.parts (id, name) ≡ None) ⊎ (has_name name os ≡ true) ⊎ Has names name
    known name None is = inl is
    known name (Some p) is = inr (inr (complete name p is))

-- those of the new names stay
parts_stay : (id : List ℕ) (os : AllTexts) (names : List (List ℕ)) (name : List ℕ) (t : Maps) → has_name name os ≡ true → (others_dropped id os names t).parts (id, name) ≡ t.parts (id, name)
parts_stay id os [] name t has = refl
parts_stay id os (n ∷ names) name t has = parts_stay id os names name (dropped_unless_kept id os n t) has ∙ go (has_name n os) refl
  where
    go : (b : Bool) → has_name n os ≡ b → (cond b t (dropped (id, n) t)).parts (id, name) ≡ t.parts (id, name)
    go true is = refl
    go false is = elim (cases_Bool (same_place (id, name) (id, n))) [
      | inl same ↦ absurd (
          let key : name ≡ n = ap (λ (at : ObjectKey). at.1) ((parts.decides (id, name) (id, n)).0 same) in
          let again : has_name name os ≡ false = subst (λ m. has_name m os ≡ false) (sym key) is in cc (again, has))
      | inr other ↦ rw other refl
    ]

-- ---- objects that are the same

pub named : (os : AllTexts) (o : List ℕ × ObjectTexts) → Has os o → has_name o.0 os ≡ true
named [] o h = absurd h
named (x ∷ os) o (inl is) = let same : bytes_eq x.0 o.0 ≡ true = (bytes_eq-Decides x.0 o.0).1 (ap (λ (e : List ℕ × ObjectTexts). e.0) (sym is)) in rw same refl
named (x ∷ os) o (inr later) = rw (named os o later) (go (bytes_eq x.0 o.0))
  where
    go : (b : Bool) → (b || true) ≡ true
    go true = refl
    go false = refl

both_true : (a b : Bool) → (a && b) ≡ true → (a ≡ true) × (b ≡ true)
both_true true b is = (refl, is)
both_true false b is = absurd cc

same_is : (a b : List ℕ × ObjectTexts) → same_object a b ≡ true → a ≡ b
same_is a b same =
    let one = both_true (bytes_eq a.0 b.0) (bytes_eq a.1.kind b.1.kind && bytes_eq a.1.fields b.1.fields) same in
    let two = both_true (bytes_eq a.1.kind b.1.kind) (bytes_eq a.1.fields b.1.fields) one.1 in
    let name = (bytes_eq-Decides a.0 b.0).0 one.0 in
    let kind = (bytes_eq-Decides a.1.kind b.1.kind).0 two.0 in
    let fields = (bytes_eq-Decides a.1.fields b.1.fields).0 two.1 in
    λ i. (name i, record { kind = kind i; fields = fields i })

known_there : (o : List ℕ × ObjectTexts) (os : AllTexts) → has_object o os ≡ true → Has os o
known_there o [] has = absurd cc
known_there o (x ∷ os) has = go (same_object x o) refl has (known_there o os)
  where
    go : (b : Bool) → same_object x o ≡ b → (b || has_object o os) ≡ true → (has_object o os ≡ true → Has os o) → Has (x ∷ os) o
    go true same all later = inl (sym (same_is x o same))
    go false other is later = inr (later is)

there_left : (id : List ℕ) (os there : AllTexts) (t : Maps) → AreApart os → ArePartsOf id there t → AreThere id there os (others_dropped id os (names_of there) t)
there_left id os there t apart known = (apart, λ o among has. parts_stay id os (names_of there) o.0 t (named os o among) ∙ known.0 o (known_there o there has))

-- ---- the objects of a record

-- they were read, those of other names taken out, and the new ones written
pub replace_step : {X E : Type 0} (a b c f : State) (id : List ℕ) (os there : AllTexts) (k : ℕ) (r : Result X E) → ((d : List Row) (t : Maps) → SpellsTables a.now d t → ArePartsOf id there t) → Advances a b (λ x y. y ≡ x)
    → Advances b c (Makes 0 Anyhow (others_dropped id os (names_of there))) → OnOk r (Advances c f (Makes k (AreThere id there os) (all_added id os))) → OnOk r (Advances a f (Makes k (λ _. AreApart os) (replaced id os)))
replace_step a b c f id os there k (Err e) found p q s = tt
replace_step a b c f id os there k (Ok x) found p q s = record {
  was_open = λ live. p.was_open (q.was_open (s.was_open live));
  mode = s.mode;
  committed = s.committed ∙ q.committed ∙ p.committed;
  change = λ d t spelled apart.
      let names = names_of there in
      let known = found d t spelled in
      let one = q.change d t (subst (λ (x : Database). SpellsTables x d t) (sym p.change) spelled) tt in
      let two = s.change d (others_dropped id os names t) one.0 (there_left id os there t apart known) in (
        subst (SpellsTables f.now d) (dropped_added id os names t (λ name part has. mapped_has (λ (o : List ℕ × ObjectTexts). o.0) there (name, part) (known.1 name part has))) two.0,
        λ n room. two.1 n (one.1 (n + k) (fewer_rooms (n + k + 0) (n + k) b.now (omega arith) (subst (HasRooms (n + k)) (sym p.change) room))),
      );
}

-- they were read, and a DELETE was refused
pub others_cause : (a b c : State) → HasCleanDisk c → Frame a b → Frame b c → Advances a b (λ x y. y ≡ x) → (e : Error) → ((d : List Row) (t : Maps) → SpellsTables b.now d t → IsOwned t → IsExcused b c e)
    → (d : List Row) (t : Maps) → SpellsTables a.now d t → IsOwned t → IsExcused a c e
others_cause a b c clean before after p e h d t spelled owned refused =
    failed_then a b c (after.clean clean) before after.counts (h d t (subst (λ (x : Database). SpellsTables x d t) (sym p.change) spelled) owned refused)

-- the others were taken out, and an object was refused
pub rest_put_cause : {X : Type 0} (a b c f : State) (id : List ℕ) (os there : AllTexts) (k : ℕ) → HasCleanDisk f → Frame a b → Frame b c → Frame c f → ((d : List Row) (t : Maps) → SpellsTables a.now d t → ArePartsOf id there t) → Advances a b (λ x y. y ≡ x)
    → Advances b c (Makes 0 Anyhow (others_dropped id os (names_of there)))
    → (r : Result X Error) → IfErr r (λ e. (d : List Row) (t : Maps) → SpellsTables c.now d t → AreThere id there os t → IsOwned t → IsSome (t.heads id) → HasRooms k c.now → AreShort id os → IsExcused c f e)
    → IfErr r (λ e. (d : List Row) (t : Maps) → SpellsTables a.now d t → AreApart os → IsOwned t → IsSome (t.heads id) → HasRooms k a.now → AreShort id os → IsExcused a f e)
rest_put_cause a b c f id os there k clean first second third found p q (Ok x) h = tt
rest_put_cause a b c f id os there k clean first second third found p q (Err e) h = λ d t spelled apart owned has room short refused.
    let names = names_of there in
    let one = q.change d t (subst (λ (x : Database). SpellsTables x d t) (sym p.change) spelled) tt in
    let headed : IsSome ((others_dropped id os names t).heads id) = subst IsSome (sym (ap (λ (g : List ℕ → Option Head). g id) (heads_dropped id os names t))) has in
    failed_then a c f (third.clean clean) (frame_then a b c first second) third.counts
    (h d (others_dropped id os names t) one.0 (there_left id os there t apart (found d t spelled)) (owned_others_dropped id os names t owned) headed (one.1 k (fewer_rooms (k + 0) k b.now (omega arith) (subst (HasRooms k) (sym p.change) room))) short refused)

-- some were taken out, and the next DELETE was refused
pub next_drop_cause : (a b c : State) (id : List ℕ) (os : AllTexts) (names : List (List ℕ)) → HasCleanDisk c → Frame a b → Frame b c → Advances a b (Makes 0 Anyhow (others_dropped id os names)) → (e : Error)
    → ((d : List Row) (t : Maps) → SpellsTables b.now d t → IsOwned t → IsExcused b c e) → (d : List Row) (t : Maps) → SpellsTables a.now d t → IsOwned t → IsExcused a c e
next_drop_cause a b c id os names clean before after made e h d t spelled owned refused =
    let it = made.change d t spelled tt in
    failed_then a b c (after.clean clean) before after.counts (h d (others_dropped id os names t) it.0 (owned_others_dropped id os names t owned) refused)

-- ---- the record

-- a record that isn't there has no object
free_of : (id : List ℕ) (t : Maps) → IsOwned t → t.heads id ≡ None → (name : List ℕ) → t.parts (id, name) ≡ None
free_of id t owned none name = go (t.parts (id, name)) refl
  where
    go : (o : Option ObjectTexts) → t.parts (id, name) ≡ o → t.parts (id, name) ≡ None
    go None is = is
    go (Some p) is = absurd (let some = subst IsSome none (owned (id, name) p is) in cc)

pub heads_anew : (id : List ℕ) (h : Head) (t : Maps) → (put id h t).heads ≡ (put id h (removed id t)).heads
heads_anew id h t = λ i other. go (bytes_eq other id) (t.heads other) i
  where
    go : (b : Bool) (o : Option Head) → cond b (Some h) o ≡ cond b (Some h) (cond b None o)
    go true o = refl
    go false o = refl

put_anew : (id : List ℕ) (h : Head) (t : Maps) → IsOwned t → t.heads id ≡ None → put id h t ≡ put id h (removed id t)
put_anew id h t owned none = both (put id h t) (put id h (removed id t)) (heads_anew id h t) (λ at. elim (cases_Bool (bytes_eq at.0 id)) [
  | inl same ↦
      let is : at.0 ≡ id = (bytes_eq-Decides at.0 id).0 same in
      rw same (subst (λ k. t.parts (k, at.1) ≡ None) (sym is) (free_of id t owned none at.1))
  | inr other ↦ rw other refl
])

-- the row of a new record, and then its objects
pub new_written : (id : List ℕ) (h : Head) (os : AllTexts) (k : ℕ) (a b c : Database) → Makes 1 (Lacks id) (put id h) a b → Makes k (IsFree id os) (all_added id os) b c → Makes (1 + k) (IsNew id os) (written id h os) a c
new_written id h os k a b c p q d t spelled new =
    let one = p d t spelled new.1 in
    let two = q d (put id h t) one.0 (new.0.0, free_of id t new.0.1 new.1) in
    (subst (SpellsTables c d) (ap (all_added id os) (put_anew id h t new.0.1 new.1)) two.0, both_rooms 1 k (1 + k) a b c refl one.1 two.1)

-- the row was written, and an object was refused
pub new_rest_cause : {X : Type 0} (a b c : State) (id : List ℕ) (h : Head) (os : AllTexts) (k : ℕ) → HasCleanDisk c → Frame a b → Frame b c → Advances a b (Makes 1 (Lacks id) (put id h)) → (r : Result X Error)
    → IfErr r (λ e. (d : List Row) (t : Maps) → SpellsTables b.now d t → IsOwned t → IsFree id os t → IsSome (t.heads id) → HasRooms k b.now → AreShort id os → IsExcused b c e)
    → IfErr r (λ e. (d : List Row) (t : Maps) → SpellsTables a.now d t → IsNew id os t → HasRooms (1 + k) a.now → IsShortHead id h → AreShort id os → IsExcused a c e)
new_rest_cause a b c id h os k clean before after p (Ok x) cause = tt
new_rest_cause a b c id h os k clean before after p (Err e) cause = λ d t spelled new room _ short refused.
    let one = p.change d t spelled new.1 in
    let itself = (bytes_eq-Decides id id).1 refl in
    let headed : IsSome ((put id h t).heads id) = rw itself refl in
    failed_then a b c (after.clean clean) before after.counts
    (cause d (put id h t) one.0 (owned_put id h t new.0.1) (new.0.0, free_of id t new.0.1 new.1) headed (one.1 k (fewer_rooms (k + 1) (1 + k) a.now (omega arith) room)) short refused)
