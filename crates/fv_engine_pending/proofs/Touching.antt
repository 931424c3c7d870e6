-- What parts touch stands on the way.
use Rattle.std.proofs.Common.{◌≡◌, ◌⊎◌, inl, inr, ℕ, ◌+◌, ◌≤◌, List, [], ◌∷◌, ◌++◌, map, length, Bool, true, false, ◌||◌, cond, IsTrue, Option, Some, None, is_some, Ordering, Less, Equal, Greater, Result, Ok, Err, bytes_eq, nat_cmp, refl, sym, ap, ◌∙◌, true≢false, arith}
use Rattle.std.specs.Cmp.Lexicographic.{slice_cmp}
use Rattle.std.specs.List.{list_any}
use Rattle.std.specs.Ordering.{match_ordering}
use Rattle.std.specs.Prelude.{unwrap_or}
use Rattle.std.proofs.lemmas.Slice.Eq.{bytes_eq-Decides}
use Rattle.serde_json.specs.Data as json
use Rattle.fv_datum.specs.Lookup.{at_name}
use Rattle.fv_engine_command.specs.Commands.{Part, put, set, remove}
use Rattle.fv_model.specs.Setting.{bundle_set}
use Rattle.fv_bundle.specs.Bundles.{Bundled}
use Rattle.fv_engine_pending.specs.Fits.{AreNeeded}
use Rattle.fv_engine_pending.specs.Parts.{bundle_under, and_then}
use Rattle.fv_engine_pending.specs.Steps.{faulty, staged, left_as, set_on, removed_on, step_made, steps_made, numbered}
use Rattle.fv_engine_pending.specs.Touched.{touches, IsTouched, leaves_record, needs_record, needs_at, count_needed, count_left}
use Rattle.fv_engine_pending.specs.Ways.{Way, overlay, standing, standing_at, standing_entry, IsOn, left_at, without_id}
use Rattle.fv_engine_pending.specs.declared.fault.PartFault.{PartFault}
use Rattle.fv_engine_pending.specs.declared.fault.PartFault.TheVariants.{UnknownForm}
use Rattle.fv_engine_pending.proofs.Made.{Left, id_of, part_left, stays_on, is_on}
use Rattle.fv_store.specs.Records.{Kept, Records, Roots}
use Rattle.fv_bundle.specs.Types.{Declared}

-- ---- what a part touches is on the way after it

or_true : (a b : Bool) → IsTrue (a || b) → (a ≡ true) ⊎ (b ≡ true)
or_true true b is = inl refl
or_true false b is = inr is

or_first : (a b : Bool) → a ≡ true → IsTrue (a || b)
or_first true b is = refl
or_first false b is = cc

or_second : (a b : Bool) → b ≡ true → IsTrue (a || b)
or_second true b is = refl
or_second false b is = is

touches_id : (id : List ℕ) (p : Part) → touches id p ≡ true → bytes_eq id (id_of p) ≡ true
touches_id id (put i form j) is = is
touches_id id (set i object field j) is = is
touches_id id (remove i) is = cc

touched_on : (id : List ℕ) (p : Part) (w new : Way) → Left (id_of p) (leaves_record p) w new → touches id p ≡ true → IsOn id new
touched_on id p w new l is =
    let same : id ≡ id_of p = (bytes_eq-Decides id (id_of p)).0 (touches_id id p is) in
    ap (λ q. is_some (at_name q new)) same ∙ is_on (id_of p) (leaves_record p) w new l

module _ (types : Declared) (forms : Roots) (id : List ℕ) where
  on_after : (n : ℕ) (ps : List Part) (w new : Way) (r : Result Way PartFault)
      → ((v : Way) → IsOn id v → steps_made types (n + 1) (map (staged types forms) ps) v ≡ Ok new → IsOn id new) → ((v : Way) → r ≡ Ok v → IsOn id v)
      → and_then (steps_made types (n + 1) (map (staged types forms) ps)) (numbered n r) ≡ Ok new → IsOn id new
  on_after n ps w new (Ok v) ih on e = ih v (on v refl) e
  on_after n ps w new (Err fault) ih on e = cc

  -- what is on the way is on it at the end
  on_stays : (n : ℕ) (ps : List Part) (w new : Way) → IsOn id w → steps_made types n (map (staged types forms) ps) w ≡ Ok new → IsOn id new
  on_stays n [] w new on e =
      let same : w ≡ new = cc in
      ap (λ v. is_some (at_name id v)) (sym same) ∙ on
  on_stays n (p ∷ ps) w new on e =
      on_after n ps w new (step_made types (staged types forms p) w) (λ v there made. on_stays (n + 1) ps v new there made)
      (λ v is. stays_on (id_of p) (leaves_record p) w v (part_left types forms p w v is) id on) e

  touched_after : (n : ℕ) (p : Part) (ps : List Part) (w new : Way) (r : Result Way PartFault) → step_made types (staged types forms p) w ≡ r
      → ((v : Way) → IsTrue (list_any (touches id) ps) → steps_made types (n + 1) (map (staged types forms) ps) v ≡ Ok new → IsOn id new) → (touches id p ≡ true) ⊎ (list_any (touches id) ps ≡ true)
      → and_then (steps_made types (n + 1) (map (staged types forms) ps)) (numbered n r) ≡ Ok new → IsOn id new
  touched_after n p ps w new (Ok v) is ih (inl here) e = on_stays (n + 1) ps v new (touched_on id p w v (part_left types forms p w v is) here) e
  touched_after n p ps w new (Ok v) is ih (inr later) e = ih v later e
  touched_after n p ps w new (Err fault) is ih which e = cc

  touched_is_on : (n : ℕ) (ps : List Part) (w new : Way) → IsTrue (list_any (touches id) ps) → steps_made types n (map (staged types forms) ps) w ≡ Ok new → IsOn id new
  touched_is_on n [] w new touched e = cc
  touched_is_on n (p ∷ ps) w new touched e =
      touched_after n p ps w new (step_made types (staged types forms p) w) refl (λ v later made. touched_is_on (n + 1) ps v new later made) (or_true (touches id p) (list_any (touches id) ps) touched) e

  -- ---- what stands at the end was touched, or stood on the way and no part needs it

  -- no part needs a record there, and one stood there
  abbrev Stood : List Part → Way → Kept → Type 0
  Stood ps w k = (list_any (needs_at id) ps ≡ false) × (at_name id w ≡ Some (Some k))

  needs_other : (p : Part) → bytes_eq id (id_of p) ≡ false → needs_at id p ≡ false
  needs_other (put i form j) other = refl
  needs_other (set i object field j) other = other
  needs_other (remove i) other = other

  touches_here : (p : Part) → leaves_record p ≡ true → bytes_eq id (id_of p) ≡ true → touches id p ≡ true
  touches_here (put i form j) leaves is = is
  touches_here (set i object field j) leaves is = is
  touches_here (remove i) leaves is = cc

  stood_before : (p : Part) (ps : List Part) (w v : Way) (k : Kept) (b : Bool) (l : Left (id_of p) (leaves_record p) w v) → bytes_eq id (id_of p) ≡ b → cond b (Some l.left) (at_name id w) ≡ Some (Some k) → list_any (needs_at id) ps ≡ false
      → (list_any (touches id) (p ∷ ps) ≡ true) ⊎ Stood (p ∷ ps) w k
  stood_before p ps w v k true l is found none =
      let left : l.left ≡ Some k = cc in
      let leaves : leaves_record p ≡ true = sym l.is ∙ ap is_some left in
      inl (or_first (touches id p) (list_any (touches id) ps) (touches_here p leaves is))
  stood_before p ps w v k false l is found none = inr (ap (λ b. b || list_any (needs_at id) ps) (needs_other p is) ∙ none, found)

  before_touched : (p : Part) (ps : List Part) (w v : Way) (k : Kept) → Left (id_of p) (leaves_record p) w v → (list_any (touches id) ps ≡ true) ⊎ Stood ps v k → (list_any (touches id) (p ∷ ps) ≡ true) ⊎ Stood (p ∷ ps) w k
  before_touched p ps w v k l (inl later) = inl (or_second (touches id p) (list_any (touches id) ps) later)
  before_touched p ps w v k l (inr stood) = stood_before p ps w v k (bytes_eq id (id_of p)) l refl (sym (l.at id) ∙ stood.1) stood.0

  stands_after : (n : ℕ) (p : Part) (ps : List Part) (w new : Way) (k : Kept) (r : Result Way PartFault) → step_made types (staged types forms p) w ≡ r
      → ((v : Way) → steps_made types (n + 1) (map (staged types forms) ps) v ≡ Ok new → (list_any (touches id) ps ≡ true) ⊎ Stood ps v k)
      → and_then (steps_made types (n + 1) (map (staged types forms) ps)) (numbered n r) ≡ Ok new → (list_any (touches id) (p ∷ ps) ≡ true) ⊎ Stood (p ∷ ps) w k
  stands_after n p ps w new k (Ok v) is ih e = before_touched p ps w v k (part_left types forms p w v is) (ih v e)
  stands_after n p ps w new k (Err fault) is ih e = cc

  standing_was : (n : ℕ) (ps : List Part) (w new : Way) (k : Kept) → at_name id new ≡ Some (Some k) → steps_made types n (map (staged types forms) ps) w ≡ Ok new → (list_any (touches id) ps ≡ true) ⊎ Stood ps w k
  standing_was n [] w new k stands e =
      let same : w ≡ new = cc in
      inr (refl, ap (at_name id) same ∙ stands)
  standing_was n (p ∷ ps) w new k stands e =
      stands_after n p ps w new k (step_made types (staged types forms p) w) refl (λ v made. standing_was (n + 1) ps v new k stands made) e

-- ---- all parts

on_as : (o : Option (Option Kept)) (was : Option Kept) (k : Kept) → is_some o ≡ true → unwrap_or o was ≡ Some k → o ≡ Some (Some k)
on_as None was k on is = cc
on_as (Some x) was k on is = ap (λ (y : Option Kept). Some y) is

needed_or : (parts : List Part) (way : Way) (id : List ℕ) (k : Kept) → AreNeeded parts way → (list_any (touches id) parts ≡ true) ⊎ ((list_any (needs_at id) parts ≡ false) × (at_name id way ≡ Some (Some k))) → IsTrue (list_any (touches id) parts)
needed_or parts way id k needed (inl touched) = touched
needed_or parts way id k needed (inr stood) = absurd (true≢false (sym (needed id (ap is_some stood.1)) ∙ stood.0))

module _ (types : Declared) (forms : Roots) (n : ℕ) (parts : List Part) (way new : Way) (made : steps_made types n (map (staged types forms) parts) way ≡ Ok new) where
  -- the record of an id that was put or set stands on the way
  pub touched_stands : (m : Records) (id : List ℕ) (k : Kept) → IsTouched parts (overlay new m) id k → at_name id new ≡ Some (Some k)
  touched_stands m id k touched = on_as (at_name id new) (m id) k (touched_is_on types forms id n parts way new touched.0 made) touched.1

  -- each record that stands at the end was put or set
  pub standing_touched : (m : Records) (id : List ℕ) (k : Kept) → AreNeeded parts way → at_name id new ≡ Some (Some k) → IsTouched parts (overlay new m) id k
  standing_touched m id k needed stands =
      (needed_or parts way id k needed (standing_was types forms id n parts way new k stands made), ap (λ o. unwrap_or o (m id)) stands)

-- ---- how many records stand there

-- one where a record stands
abbrev one_if : Option Kept → ℕ
one_if None = 0
one_if (Some k) = 1

-- the same of all entries
abbrev stand : Way → ℕ
stand [] = 0
stand (e ∷ es) = one_if e.1 + stand es

all_stand : (w : Way) → length (standing w) ≡ stand w
all_stand [] = refl
all_stand (e ∷ es) = at e.1 (all_stand es)
  where
    at : (o : Option Kept) → length (standing es) ≡ stand es → length (standing_entry e.0 o ++ standing es) ≡ one_if o + stand es
    at None ih = omega arith
    at (Some k) ih = omega arith

fewer_stand : (w : Way) → stand w ≤ length w
fewer_stand [] = omega arith
fewer_stand (e ∷ es) = at e.1 (fewer_stand es)
  where
    at : (o : Option Kept) → stand es ≤ length es → one_if o + stand es ≤ length (e ∷ es)
    at None ih = omega arith
    at (Some k) ih = omega arith

left_stand : (id : List ℕ) (o : Option Kept) (w : Way) → stand (left_at id o w) ≤ stand w + one_if o
left_stand id o [] = omega arith
left_stand id o (e ∷ es) = at (slice_cmp nat_cmp id e.0) (left_stand id o es)
  where
    at : (c : Ordering) → stand (left_at id o es) ≤ stand es + one_if o → stand (match_ordering c ((id, o) ∷ e ∷ es) ((e.0, o) ∷ es) (e ∷ left_at id o es)) ≤ stand (e ∷ es) + one_if o
    at Less ih = omega arith
    at Equal ih = omega arith
    at Greater ih = omega arith

without_stand : (id : List ℕ) (w : Way) (k : Kept) → standing_at id w ≡ Some k → stand (without_id id w) + 1 ≡ stand w
without_stand id [] k stands = cc
without_stand id (e ∷ es) k stands = at (bytes_eq id e.0) (without_stand id es k) stands
  where
    at : (b : Bool) → (standing_at id es ≡ Some k → stand (without_id id es) + 1 ≡ stand es) → unwrap_or (cond b (Some e.1) (at_name id es)) None ≡ Some k → stand (cond b es (e ∷ without_id id es)) + 1 ≡ stand (e ∷ es)
    at true ih found = let one : one_if e.1 ≡ 1 = ap one_if found in omega (arith, one)
    at false ih found = let less = ih found in omega arith

bundle_stands : (id form : List ℕ) (w new : Way) (r : Result Bundled PartFault) → left_as id form w r ≡ Ok new → stand new ≤ stand w + 1
bundle_stands id form w new (Ok b) e =
    let kept : Kept = record { form = form; bundle = b } in
    let same : left_at id (Some kept) w ≡ new = cc in
    let more = left_stand id (Some kept) w in
    omega (arith, ap stand same, more)
bundle_stands id form w new (Err fault) e = cc

set_stands : (types : Declared) (id object field : List ℕ) (j : json.Data) (w new : Way) (o : Option Kept) → standing_at id w ≡ o → set_on types id object field j w o ≡ Ok new → stand new ≤ stand w
set_stands types id object field j w new None stands e = cc
set_stands types id object field j w new (Some k) stands e =
    let more = bundle_stands id k.form (without_id id w) new (faulty (bundle_set types k.bundle object field j)) e in
    let less = without_stand id w k stands in
    omega arith

remove_stands : (id : List ℕ) (w new : Way) (o : Option Kept) → standing_at id w ≡ o → removed_on id w o ≡ Ok new → stand new + 1 ≤ stand w
remove_stands id w new None stands e = cc
remove_stands id w new (Some k) stands e =
    let same : left_at id None (without_id id w) ≡ new = cc in
    let more = left_stand id None (without_id id w) in
    let less = without_stand id w k stands in
    omega (arith, ap stand same)

module _ (types : Declared) (forms : Roots) where
  part_stands : (p : Part) (w new : Way) → step_made types (staged types forms p) w ≡ Ok new → stand new + cond (needs_record p) 1 0 ≤ stand w + cond (leaves_record p) 1 0
  part_stands (put id form j) w new e =
      let more = bundle_stands id form w new (cond (is_some (at_name form forms)) (faulty (bundle_under types forms form j)) (Err UnknownForm)) e in
      omega arith
  part_stands (set id object field j) w new e =
      let more = set_stands types id object field j w new (standing_at id w) refl e in
      omega arith
  part_stands (remove id) w new e =
      let less = remove_stands id w new (standing_at id w) refl e in
      omega arith

  parts_after : (n : ℕ) (p : Part) (ps : List Part) (w new : Way) (r : Result Way PartFault) → step_made types (staged types forms p) w ≡ r
      → ((v : Way) → steps_made types (n + 1) (map (staged types forms) ps) v ≡ Ok new → stand new + count_needed ps ≤ stand v + count_left ps)
      → and_then (steps_made types (n + 1) (map (staged types forms) ps)) (numbered n r) ≡ Ok new
      → stand new + (cond (needs_record p) 1 0 + count_needed ps) ≤ stand w + (cond (leaves_record p) 1 0 + count_left ps)
  parts_after n p ps w new (Ok v) is ih e =
      let rest = ih v e in
      let one = part_stands p w v is in
      omega arith
  parts_after n p ps w new (Err fault) is ih e = cc

  parts_stand : (n : ℕ) (ps : List Part) (w new : Way) → steps_made types n (map (staged types forms) ps) w ≡ Ok new → stand new + count_needed ps ≤ stand w + count_left ps
  parts_stand n [] w new e =
      let same : w ≡ new = cc in
      omega (arith, ap stand same)
  parts_stand n (p ∷ ps) w new e = parts_after n p ps w new (step_made types (staged types forms p) w) refl (λ v made. parts_stand (n + 1) ps v new made) e

-- no more stand there than were put or set
pub counted : (types : Declared) (forms : Roots) (n : ℕ) (parts : List Part) (way new : Way) → length way ≤ count_needed parts → steps_made types n (map (staged types forms) parts) way ≡ Ok new → length (standing new) ≤ count_left parts
counted types forms n parts way new few made =
    let all = parts_stand types forms n parts way new made in
    let begin = fewer_stand way in
    let there = all_stand new in
    omega (arith, all, begin, there)
