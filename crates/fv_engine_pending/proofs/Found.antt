-- The records that parts need are found.
use Rattle.std.proofs.Common.{◌≡◌, ◌⊎◌, inl, inr, ℕ, zero, suc, ◌+◌, ◌≤◌, ◌<◌, List, [], ◌∷◌, ◌++◌, map, length, get_or, Bool, true, false, ◌||◌, cond, IsTrue, Option, Some, None, is_some, option_map, Ordering, Less, Equal, Greater, Result, Ok, Err, OnOk, OnErr, bytes_eq, nat_cmp, refl, sym, ap, subst, ◌∙◌, true≢false, arith}
use Rattle.std.specs.Cmp.Lexicographic.{slice_cmp}
use Rattle.std.specs.List.{AllByRecursion, list_any}
use Rattle.std.specs.Option.{ForSome, IfSome, option_map_or}
use Rattle.std.specs.Ordering.{match_ordering}
use Rattle.std.proofs.lemmas.Slice.Eq.{bytes_eq-Decides}
use Rattle.sqlite.specs.State.{State}
use Rattle.fv_datum.proofs.Maps.{at_insert}
use Rattle.fv_engine_command.specs.Commands.{Part}
use Rattle.fv_datum.specs.Lookup.{at_name}
use Rattle.fv_bundle.specs.WellTyped.{IsWellTyped}
use Rattle.fv_engine_pending.specs.Fits.{Agrees, AreNeeded, AreTyped, Covers}
use Rattle.fv_engine_pending.specs.Touched.{needed_id, needs_record, needs_at, count_needed}
use Rattle.fv_engine_pending.specs.Ways.{Way, IsOn, left_at}
use Rattle.fv_store.specs.Records.{Kept, Records}
use Rattle.fv_store.specs.Stands.{Stays}
use Rattle.fv_store.specs.Stored.{stored_view}
use Rattle.fv_store.specs.declared.stored.Stored.{Stored}
use Rattle.fv_bundle.specs.Types.{Declared}

-- what follows from what a call makes sure of
pub on_ok : {X E : Type 0} (P Q : Type 0) (r : Result X E) → (P → Q) → OnOk r P → OnOk r Q
on_ok P Q (Ok x) more known = more known
on_ok P Q (Err e) more known = tt

pub on_err : {X E : Type 0} (P : Type 0) (r : Result X E) → P → OnErr r P
on_err P (Ok x) known = tt
on_err P (Err e) known = known

-- a database stays as it was, and then again
pub stays_then : (a b c : State) → Stays a b → Stays b c → Stays a c
stays_then a b c one two clean live =
    let later = two clean live in
    let before = one later.0 later.1 in
    (before.0, before.1, later.2 ∙ before.2, later.3 ∙ before.3)

-- ---- a record is left at an id

module _ (id : List ℕ) (o : Option Kept) (way : Way) where
  -- what stands at each id then
  left_is : (q : List ℕ) → at_name q (left_at id o way) ≡ cond (bytes_eq q id) (Some o) (at_name q way)
  left_is = at_insert way id o

  -- it agrees with records that have it
  pub agrees_left : (m : Records) → Agrees way m → o ≡ m id → Agrees (left_at id o way) m
  agrees_left m agrees is q p stands = at (bytes_eq q id) refl (sym (left_is q) ∙ stands)
    where
      at : (b : Bool) → bytes_eq q id ≡ b → cond b (Some o) (at_name q way) ≡ Some p → m q ≡ p
      at true same found =
          let that : o ≡ p = cc in
          ap m ((bytes_eq-Decides q id).0 same) ∙ sym is ∙ that
      at false other found = agrees q p found

  pub there : IsOn id (left_at id o way)
  there = ap is_some (left_is id ∙ ap (λ b. cond b (Some o) (at_name id way)) ((bytes_eq-Decides id id).1 refl))

  -- what was on the way stays on it
  pub stays_there : (q : List ℕ) → IsOn q way → IsOn q (left_at id o way)
  stays_there q on = ap is_some (left_is q) ∙ at (bytes_eq q id)
    where
      at : (b : Bool) → is_some (cond b (Some o) (at_name q way)) ≡ true
      at true = refl
      at false = on

  -- and nothing else comes
  pub only_there : (q : List ℕ) → IsOn q (left_at id o way) → IsOn q way ⊎ (q ≡ id)
  only_there q on = at (bytes_eq q id) refl (sym (ap is_some (left_is q)) ∙ on)
    where
      at : (b : Bool) → bytes_eq q id ≡ b → is_some (cond b (Some o) (at_name q way)) ≡ true → IsOn q way ⊎ (q ≡ id)
      at true same is = inr ((bytes_eq-Decides q id).0 same)
      at false other is = inl is

pub typed_left : (types : Declared) (id : List ℕ) (o : Option Kept) (way : Way) → ForSome o (λ k. IsWellTyped types k.bundle) → AreTyped types way → AreTyped types (left_at id o way)
typed_left types id o [] new all = (new, tt)
typed_left types id o (e ∷ es) new all = at (slice_cmp nat_cmp id e.0) (typed_left types id o es new all.1)
  where
    at : (c : Ordering) → AreTyped types (left_at id o es) → AreTyped types (match_ordering c ((id, o) ∷ e ∷ es) ((e.0, o) ∷ es) (e ∷ left_at id o es))
    at Less ih = (new, all)
    at Equal ih = (new, all.1)
    at Greater ih = (all.0, ih)

-- at most one more
pub few_left : (id : List ℕ) (o : Option Kept) (way : Way) → length (left_at id o way) ≤ length way + 1
few_left id o [] = omega arith
few_left id o (e ∷ es) = at (slice_cmp nat_cmp id e.0) (few_left id o es)
  where
    at : (c : Ordering) → length (left_at id o es) ≤ length es + 1 → length (match_ordering c ((id, o) ∷ e ∷ es) ((e.0, o) ∷ es) (e ∷ left_at id o es)) ≤ length (e ∷ es) + 1
    at Less ih = omega arith
    at Equal ih = omega arith
    at Greater ih = omega (arith, ih)

-- a record that is handed out well-typed is kept so
pub typed_kept : (types : Declared) (o : Option Stored) → IfSome o (λ s. IsWellTyped types (stored_view s).bundle) → ForSome (option_map stored_view o) (λ k. IsWellTyped types k.bundle)
typed_kept types None typed k is = cc
typed_kept types (Some s) typed k is =
    let same : stored_view s ≡ k = cc in
    subst (λ (x : Kept). IsWellTyped types x.bundle) same typed

-- ---- a part that needs no record

module _ (p : Part) (is : None ≡ needed_id p) where
  pub covers_none : (way : Way) → Covers way p
  covers_none way i found = cc

-- ---- a part that needs the one of an id

module _ (id : List ℕ) (p : Part) (is : Some id ≡ needed_id p) where
  pub covers_id : (way : Way) → IsOn id way → Covers way p
  covers_id way on i found =
      let same : id ≡ i = cc in
      subst (λ q. IsOn q way) same on

  pub covered_id : (way : Way) → Covers way p → IsOn id way
  covered_id way covers = covers id (sym is)

  pub needs_id : IsTrue (needs_record p)
  needs_id = ap is_some (sym is)

  pub needs_at_id : (q : List ℕ) → q ≡ id → IsTrue (needs_at q p)
  needs_at_id q same = ap (λ o. option_map_or (bytes_eq q) o false) (sym is) ∙ (bytes_eq-Decides q id).1 same

  pub only_id : (q : List ℕ) (Was : Type 0) → Was ⊎ (q ≡ id) → Was ⊎ IsTrue (needs_at q p)
  only_id q Was (inl was) = inl was
  only_id q Was (inr same) = inr (needs_at_id q same)

  pub count_id : (n k : ℕ) → n ≤ k + 1 → n ≤ k + count_needed (p ∷ [])
  count_id n k few = let one : count_needed (p ∷ []) ≡ 1 = ap (λ b. cond b 1 0 + 0) needs_id in omega (arith, few, one)

-- ---- one part more

or_true : (a b : Bool) → IsTrue (a || b) → (a ≡ true) ⊎ (b ≡ true)
or_true true b is = inl refl
or_true false b is = inr is

any_before : {X : Type 0} (f : X → Bool) (xs : List X) (x : X) → list_any f xs ≡ true → list_any f (xs ++ x ∷ []) ≡ true
any_before f [] x h = cc
any_before f (y ∷ ys) x h = at (f y) h (any_before f ys x)
  where
    at : (b : Bool) → IsTrue (b || list_any f ys) → (list_any f ys ≡ true → list_any f (ys ++ x ∷ []) ≡ true) → IsTrue (b || list_any f (ys ++ x ∷ []))
    at true h ih = refl
    at false h ih = ih h

any_last : {X : Type 0} (f : X → Bool) (xs : List X) (x : X) → f x ≡ true → list_any f (xs ++ x ∷ []) ≡ true
any_last f [] x h = ap (λ b. b || false) h
any_last f (y ∷ ys) x h = at (f y) (any_last f ys x h)
  where
    at : (b : Bool) → list_any f (ys ++ x ∷ []) ≡ true → IsTrue (b || list_any f (ys ++ x ∷ []))
    at true ih = refl
    at false ih = ih

any_either : {X : Type 0} (f : X → Bool) (xs : List X) (x : X) → list_any f (xs ++ x ∷ []) ≡ true → (list_any f xs ≡ true) ⊎ (f x ≡ true)
any_either f [] x h = at (or_true (f x) false h)
  where
    at : (f x ≡ true) ⊎ (false ≡ true) → (false ≡ true) ⊎ (f x ≡ true)
    at (inl is) = inr is
    at (inr never) = inl never
any_either f (y ∷ ys) x h = at (f y) h (any_either f ys x)
  where
    at : (b : Bool) → IsTrue (b || list_any f (ys ++ x ∷ [])) → (list_any f (ys ++ x ∷ []) ≡ true → (list_any f ys ≡ true) ⊎ (f x ≡ true)) → ((b || list_any f ys) ≡ true) ⊎ (f x ≡ true)
    at true h ih = inl refl
    at false h ih = ih h

-- whoever needs the record of an id needs one
needs_some : (id : List ℕ) (p : Part) → needs_at id p ≡ true → needs_record p ≡ true
needs_some id p = at (needed_id p)
  where
    at : (o : Option (List ℕ)) → option_map_or (bytes_eq id) o false ≡ true → is_some o ≡ true
    at None h = h
    at (Some i) h = refl

any_needs : (id : List ℕ) (ps : List Part) → list_any (needs_at id) ps ≡ true → list_any needs_record ps ≡ true
any_needs id [] h = h
any_needs id (p ∷ ps) h = at (needs_at id p) (needs_record p) h (needs_some id p) (any_needs id ps)
  where
    at : (a b : Bool) → IsTrue (a || list_any (needs_at id) ps) → (a ≡ true → b ≡ true) → (list_any (needs_at id) ps ≡ true → list_any needs_record ps ≡ true) → IsTrue (b || list_any needs_record ps)
    at a true h more ih = refl
    at true false h more ih = absurd (true≢false (sym (more refl)))
    at false false h more ih = ih h

module _ (ps : List Part) (p : Part) (old new : Way) where
  pub covers_more : ((q : List ℕ) → IsOn q old → IsOn q new) → Covers new p → AllByRecursion (Covers old) ps → AllByRecursion (Covers new) (ps ++ p ∷ [])
  covers_more stays last = go ps
    where
      go : (qs : List Part) → AllByRecursion (Covers old) qs → AllByRecursion (Covers new) (qs ++ p ∷ [])
      go [] all = (last, tt)
      go (q ∷ qs) all = (λ i found. stays i (all.0 i found), go qs all.1)

  pub needed_more : ((q : List ℕ) → IsOn q new → IsOn q old ⊎ IsTrue (needs_at q p)) → AreNeeded ps old → AreNeeded (ps ++ p ∷ []) new
  needed_more only needed q on = at (only q on)
    where
      at : IsOn q old ⊎ IsTrue (needs_at q p) → IsTrue (list_any (needs_at q) (ps ++ p ∷ []))
      at (inl was) = any_before (needs_at q) ps p (needed q was)
      at (inr is) = any_last (needs_at q) ps p is

  pub count_more : length new ≤ length old + count_needed (p ∷ []) → length old ≤ count_needed ps → length new ≤ count_needed (ps ++ p ∷ [])
  count_more one few = let sum = counts ps in omega (arith, one, few, sum)
    where
      counts : (qs : List Part) → count_needed (qs ++ p ∷ []) ≡ count_needed qs + count_needed (p ∷ [])
      counts [] = omega arith
      counts (q ∷ qs) = let ih = counts qs in omega (arith, ih)

  -- the connection is live where one of them needs a record: for one that is on the way, another needed it before
  pub live_more : (Was Is : Type 0) → ((Covers old p → Was) → Is) → AreNeeded ps old → (IsTrue (list_any needs_record ps) → Was) → IsTrue (list_any needs_record (ps ++ p ∷ [])) → Is
  live_more Was Is live needed was any = at (any_either needs_record ps p any)
    where
      on : (o : Option (List ℕ)) → needed_id p ≡ o → is_some o ≡ true → Covers old p → Was
      on None is some covers = absurd cc
      on (Some id) is some covers = was (any_needs id ps (needed id (covers id is)))

      at : (list_any needs_record ps ≡ true) ⊎ (needs_record p ≡ true) → Is
      at (inl before) = live (λ covers. was before)
      at (inr now) = live (on (needed_id p) refl now)

-- one of the parts needs a record
pub any_item : {X Y : Type 0} (f : Y → Bool) (g : X → Y) (xs : List X) (i : ℕ) (x : X) → i < length xs → f (g (get_or xs i x)) ≡ true → IsTrue (list_any f (map g xs))
any_item f g [] i x lt is = absurd (omega arith)
any_item f g (y ∷ ys) zero x lt is = ap (λ b. b || list_any f (map g ys)) is
any_item f g (y ∷ ys) (suc i) x lt is = at (f (g y)) (any_item f g ys i x (omega arith) is)
  where
    at : (b : Bool) → IsTrue (list_any f (map g ys)) → IsTrue (b || list_any f (map g ys))
    at true ih = refl
    at false ih = ih
