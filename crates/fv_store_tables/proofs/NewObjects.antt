-- The objects of a new record, run by run.
use Rattle.std.proofs.Common.{◌≡◌, ◌≢◌, ◌++◌, ◌+◌, ◌<◌, ◌≤◌, inl, inr, ℕ, false, length, length-append, take, drop, bytes_eq, List, [], ◌∷◌, Option, None, IsSome, IsTrue, IsUtf8, Result, OnOk, IfErr, refl, sym, ap, subst, subst₂, ◌∙◌, arith}
use Rattle.std.proofs.lemmas.List.{append_assoc, length-map, length-take-le, map-append, take_at, take-append-drop}
use Rattle.std.proofs.lemmas.Str.{IsUtf8-had, IsUtf8-string_bytes}
use Rattle.sqlite.specs.declared.types.Value.TheVariants.{Text}
use Rattle.sqlite.specs.Order.{Row}
use Rattle.sqlite.specs.Effect.{Database}
use Rattle.sqlite.specs.declared.error.Error.{Error}
use Rattle.sqlite.specs.State.{State, HasCleanDisk, ExecutesInside}
use Rattle.sqlite_rules.specs.Lists.{Has}
use Rattle.sqlite_rules.proofs.ListLemmas.{has_left}
use Rattle.fv_store_tables.specs.declared.text.ObjectText.{ObjectText}
use Rattle.fv_store_tables.specs.Stands.{Head, ObjectTexts, Maps, SpellsTables, Frame, IsOwned, added}
use Rattle.fv_store_tables.specs.Changes.{AllTexts, AreApart, has_name, all_added, object_view, objects_view, IsFree}
use Rattle.fv_store_tables.specs.Causes.{HasRooms, IsExcused, IsShortPart, AreShort}
use Rattle.fv_store_tables.specs.Inserting.{AreNew, IsRun, insert_of, object_values, row_values}
use Rattle.fv_store_tables.specs.Steps.{Advances, LacksPart, Makes}
use Rattle.fv_store_tables.proofs.Objects.{neither, unseen, heads_added, both_rooms}
use Rattle.fv_store_tables.proofs.Runs.{AreTexts, others_apart, run_step}
use Rattle.fv_store_tables.proofs.RunCauses.{run_refused}
use Rattle.fv_store_tables.proofs.Composed.{fewer_rooms, more_on_err, owned_all}
use Rattle.fv_store_tables.proofs.Steps.{failed_then, led_on_ok}

-- ---- of two lists

none_behind : (name : List ℕ) (xs ys : AllTexts) → has_name name (xs ++ ys) ≡ false → has_name name ys ≡ false
none_behind name [] ys none = none
none_behind name (x ∷ xs) ys none = none_behind name xs ys (neither (bytes_eq x.0 name) (has_name name (xs ++ ys)) none).1

none_before : (name : List ℕ) (xs ys : AllTexts) → has_name name (xs ++ ys) ≡ false → has_name name xs ≡ false
none_before name [] ys none = refl
none_before name (x ∷ xs) ys none = let it = neither (bytes_eq x.0 name) (has_name name (xs ++ ys)) none in rw it.0 (none_before name xs ys it.1)

apart_behind : (xs ys : AllTexts) → AreApart (xs ++ ys) → AreApart ys
apart_behind [] ys apart = apart
apart_behind (x ∷ xs) ys apart = apart_behind xs ys apart.1

apart_before : (xs ys : AllTexts) → AreApart (xs ++ ys) → AreApart xs
apart_before [] ys apart = tt
apart_before (x ∷ xs) ys apart = (none_before x.0 xs ys apart.0, apart_before xs ys apart.1)

apart_across : (xs ys : AllTexts) → AreApart (xs ++ ys) → (a : List ℕ × ObjectTexts) → Has xs a → (b : List ℕ × ObjectTexts) → Has ys b → bytes_eq b.0 a.0 ≡ false
apart_across [] ys apart a h b among = absurd h
apart_across (x ∷ xs) ys apart a (inl is) b among = subst (λ (e : List ℕ × ObjectTexts). bytes_eq b.0 e.0 ≡ false) (sym is) (others_apart x.0 ys (none_behind x.0 xs ys apart.0) b among)
apart_across (x ∷ xs) ys apart a (inr later) b among = apart_across xs ys apart.1 a later b among

short_behind : (id : List ℕ) (xs ys : AllTexts) → AreShort id (xs ++ ys) → AreShort id ys
short_behind id [] ys short = short
short_behind id (x ∷ xs) ys short = short_behind id xs ys short.1

short_before : (id : List ℕ) (xs ys : AllTexts) → AreShort id (xs ++ ys) → AreShort id xs
short_before id [] ys short = tt
short_before id (x ∷ xs) ys short = (short.0, short_before id xs ys short.1)

all_added-append : (id : List ℕ) (xs ys : AllTexts) (t : Maps) → all_added id (xs ++ ys) t ≡ all_added id ys (all_added id xs t)
all_added-append id [] ys t = refl
all_added-append id (x ∷ xs) ys t = all_added-append id xs ys (added (id, x.0) x.1 t)

-- ---- a run more

-- a run is new once those before it are there
run_new : (id : List ℕ) (done run behind : AllTexts) (t : Maps) → AreApart (done ++ (run ++ behind)) → ((name : List ℕ) → t.parts (id, name) ≡ None) → AreNew id run (all_added id done t)
run_new id done run behind t apart none = (
  apart_before run behind (apart_behind done (run ++ behind) apart),
  λ o h. unseen id done o.0 t (λ x among. apart_across done (run ++ behind) apart x among o (has_left run behind o h)) (none o.0),
)

view_split : (done run behind : List ObjectText) → objects_view (done ++ (run ++ behind)) ≡ objects_view done ++ (objects_view run ++ objects_view behind)
view_split done run behind = map-append object_view done (run ++ behind) ∙ ap (λ l. objects_view done ++ l) (map-append object_view run behind)

module _ (id : List ℕ) (all done run behind : List ObjectText) (split : done ++ (run ++ behind) ≡ all) where
  whole : objects_view all ≡ objects_view done ++ (objects_view run ++ objects_view behind)
  whole = sym (ap objects_view split) ∙ view_split done run behind

  pub run_more : (x y z : Database) → Makes (length done) (IsFree id (objects_view all)) (all_added id (objects_view done)) x y
      → Makes (length run) (AreNew id (objects_view run)) (all_added id (objects_view run)) y z → Makes (length (done ++ run)) (IsFree id (objects_view all)) (all_added id (objects_view (done ++ run))) x z
  run_more x y z p q d t spelled free =
      let one = p d t spelled free in
      let two = q d (all_added id (objects_view done) t) one.0 (run_new id (objects_view done) (objects_view run) (objects_view behind) t (subst AreApart whole free.0) free.1) in
      let is : all_added id (objects_view (done ++ run)) t ≡ all_added id (objects_view run) (all_added id (objects_view done) t) =
      ap (λ os. all_added id os t) (map-append object_view done run) ∙ all_added-append id (objects_view done) (objects_view run) t in
      (subst (SpellsTables z d) (sym is) two.0, both_rooms (length done) (length run) (length (done ++ run)) x y z (sym (length-append done run)) one.1 two.1)

  -- those before it were put, and the run was refused
  pub run_more_cause : (a b c : State) → HasCleanDisk c → Frame a b → Frame b c → Advances a b (Makes (length done) (IsFree id (objects_view all)) (all_added id (objects_view done))) → (e : Error)
      → ((d : List Row) (t : Maps) → SpellsTables b.now d t → IsOwned t → AreNew id (objects_view run) t → IsSome (t.heads id) → HasRooms (length run) b.now → AreShort id (objects_view run) → IsExcused b c e)
      → (d : List Row) (t : Maps) → SpellsTables a.now d t → IsOwned t → IsFree id (objects_view all) t → IsSome (t.heads id) → HasRooms (length all) a.now → AreShort id (objects_view all) → IsExcused a c e
  run_more_cause a b c clean before after made e h d t spelled own free has room short refused =
      let os = objects_view done in
      let it = made.change d t spelled free in
      let headed : IsSome ((all_added id os t).heads id) = subst IsSome (sym (ap (λ (f : List ℕ → Option Head). f id) (heads_added id os t))) has in
      let count : length run + length done ≤ length all = omega (arith, ap length split, length-append done (run ++ behind), length-append run behind) in
      let shorts = subst (AreShort id) whole short in
      failed_then a b c (after.clean clean) before after.counts
      (h d (all_added id os t) it.0 (owned_all id os t own has) (run_new id os (objects_view run) (objects_view behind) t (subst AreApart whole free.0) free.1) headed
      (it.1 (length run) (fewer_rooms (length run + length done) (length all) a.now count room)) (short_before id (objects_view run) (objects_view behind) (short_behind id os (objects_view run ++ objects_view behind) shorts)) refused)

-- what is left begins with a run
pub run_split : {X : Type 0} (all done rest run behind : List X) (n : ℕ) → run ≡ take n rest → behind ≡ drop n rest → done ++ rest ≡ all → done ++ (run ++ behind) ≡ all
run_split all done rest run behind n front back is = rw (front, back, take-append-drop n rest) is

-- what has been put with the next run
pub next_taken : {X : Type 0} (all run behind : List X) (i : ℕ) → i ≤ length all → take i all ++ (run ++ behind) ≡ all → take i all ++ run ≡ take (i + length run) all
next_taken all run behind i within is =
    let long : length (take i all ++ run) ≡ i + length run = length-append (take i all) run ∙ ap (λ n. n + length run) (length-take-le i all within) in
    sym (take_at (take i all ++ run) behind (i + length run) long) ∙ ap (take (i + length run)) (append_assoc (take i all) run behind ∙ is)

-- no object yet
pub none_yet : (s : State) (id : List ℕ) (os : AllTexts) → IsTrue s.in_transaction → Advances s s (Makes 0 (IsFree id os) (all_added id []))
none_yet s id os inside = record {
  was_open = λ live. live;
  mode = inside;
  committed = refl;
  change = λ d t spelled free. (spelled, λ n room. fewer_rooms n (n + 0) s.now (omega arith) room);
}

-- ---- a run, as the code has it

-- what is put is text
pub texts_of : (id : List ℕ) → IsUtf8 id → (os : List ObjectText) → AreTexts id (objects_view os)
texts_of id good [] = tt
texts_of id good (o ∷ os) = ((good, IsUtf8-had _ o.name_text, IsUtf8-had _ o.kind_text, IsUtf8-string_bytes o.fields), texts_of id good os)

module _ (old new : State) (id : List ℕ) (good : IsUtf8 id) (os : List ObjectText) (run : IsRun (length os)) (text : List ℕ) (is : text ≡ insert_of (length os)) (params : Row) (given : params ≡ row_values id (objects_view os))
    (r : Result ℕ Error) (ran : ExecutesInside 0 text params old new r) where
  abbrev things : AllTexts
  things = objects_view os

  count : length things ≡ length os
  count = length-map os object_view

  ran_so : ExecutesInside 0 (insert_of (length things)) (row_values id things) old new r
  ran_so = subst₂ (λ (x : List ℕ) (y : Row). ExecutesInside 0 x y old new r) (is ∙ ap insert_of (sym count)) given ran

  pub objects_step : OnOk r (Advances old new (Makes (length os) (AreNew id things) (all_added id things)))
  objects_step = subst (λ k. OnOk r (Advances old new (Makes k (AreNew id things) (all_added id things)))) count (run_step old new id things (subst IsRun (sym count) run) (texts_of id good os) r ran_so)

  pub objects_refused : old.step_limit ≡ None
      → IfErr r (λ e. (d : List Row) (t : Maps) → SpellsTables old.now d t → IsOwned t → AreNew id things t → IsSome (t.heads id) → HasRooms (length os) old.now → AreShort id things → IsExcused old new e)
  objects_refused none =
      subst (λ k. IfErr r (λ e. (d : List Row) (t : Maps) → SpellsTables old.now d t → IsOwned t → AreNew id things t → IsSome (t.heads id) → HasRooms k old.now → AreShort id things → IsExcused old new e)) count
      (run_refused old new none id things (subst IsRun (sym count) run) (texts_of id good os) r ran_so)

-- ---- a run of one

one_new : (id : List ℕ) (o : List ℕ × ObjectTexts) (t : Maps) → LacksPart (id, o.0) t → AreNew id (o ∷ []) t
one_new id o t lacks = ((refl, tt), λ x h. elim h [ inl is ↦ subst (λ (e : List ℕ × ObjectTexts). t.parts (id, e.0) ≡ None) (sym is) lacks | inr never ↦ absurd never ])

pub one_added : (a b : State) (id : List ℕ) (o : List ℕ × ObjectTexts) (r : Result ℕ Error) → OnOk r (Advances a b (Makes 1 (AreNew id (o ∷ [])) (all_added id (o ∷ [])))) → OnOk r (Advances a b (Makes 1 (LacksPart (id, o.0)) (added (id, o.0) o.1)))
one_added a b id o r = led_on_ok a b r (λ x y made d t spelled lacks. made d t spelled (one_new id o t lacks))

pub one_refused : (a b : State) (id : List ℕ) (o : List ℕ × ObjectTexts) (r : Result ℕ Error)
    → IfErr r (λ e. (d : List Row) (t : Maps) → SpellsTables a.now d t → IsOwned t → AreNew id (o ∷ []) t → IsSome (t.heads id) → HasRooms 1 a.now → AreShort id (o ∷ []) → IsExcused a b e)
    → IfErr r (λ e. (d : List Row) (t : Maps) → SpellsTables a.now d t → IsOwned t → LacksPart (id, o.0) t → IsSome (t.heads id) → HasRooms 1 a.now → IsShortPart (id, o.0) o.1 → IsExcused a b e)
one_refused a b id o r = more_on_err _ _ r (λ e h d t spelled owned lacks has room short. h d t spelled owned (one_new id o t lacks) has room (short, tt))

-- ---- its parameters

object_values-append : (xs ys : AllTexts) → object_values (xs ++ ys) ≡ object_values xs ++ object_values ys
object_values-append [] ys = refl
object_values-append (x ∷ xs) ys = ap (λ (l : Row). Text x.0 ∷ Text x.1.kind ∷ Text x.1.fields ∷ l) (object_values-append xs ys)

-- an object more
pub values_more : (id : List ℕ) (os : List ObjectText) (i : ℕ) (o : ObjectText) → take (i + 1) os ≡ take i os ++ o ∷ []
    → row_values id (objects_view (take (i + 1) os)) ≡ row_values id (objects_view (take i os)) ++ object_values (object_view o ∷ [])
values_more id os i o more =
    ap (λ (l : Row). Text id ∷ l) (ap (λ l. object_values (objects_view l)) more ∙ ap object_values (map-append object_view (take i os) (o ∷ [])) ∙ object_values-append (objects_view (take i os)) (object_view o ∷ []))

-- the length of a run is above 0
pub run_some : (n : ℕ) → IsRun n → 0 < n
run_some n (inl is) = omega (arith, is)
run_some n (inr (inl is)) = omega (arith, is)
run_some n (inr (inr (inl is))) = omega (arith, is)
run_some n (inr (inr (inr (inl is)))) = omega (arith, is)
run_some n (inr (inr (inr (inr is)))) = omega (arith, is)

-- and it is 1 unless it is one of the others
pub run_of_one : (n : ℕ) → IsRun n → n ≢ 16 → n ≢ 8 → n ≢ 4 → n ≢ 2 → n ≡ 1
run_of_one n (inl is) a b c d = is
run_of_one n (inr (inl is)) a b c d = absurd (d is)
run_of_one n (inr (inr (inl is))) a b c d = absurd (c is)
run_of_one n (inr (inr (inr (inl is)))) a b c d = absurd (b is)
run_of_one n (inr (inr (inr (inr is)))) a b c d = absurd (a is)
