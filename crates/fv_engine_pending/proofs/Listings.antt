-- Records are judged in order: those that have violations are the listings of the records among which all these are.
use Rattle.std.proofs.Common.{◌≡◌, ◌≢◌, ◌⊎◌, inl, inr, ℕ, ℤ, List, [], ◌∷◌, ◌++◌, Bool, true, false, cond, Option, Some, None, Less, bytes_eq, nat_cmp, refl, sym, ap, subst, ◌∙◌, true≢false}
use Rattle.std.specs.Cmp.Lexicographic.{slice_cmp}
use Rattle.std.specs.List.{AllByRecursion}
use Rattle.std.specs.List.Sorted.{IsStrictlySortedBy}
use Rattle.std.specs.Map.{keys_of}
use Rattle.std.specs.Ordering.{is_eq}
use Rattle.std.proofs.lemmas.Map.Keys.{sorted_head, sorted_tail}
use Rattle.std.proofs.lemmas.Map.Text.{is_eq-slice_cmp}
use Rattle.std.proofs.lemmas.Slice.Eq.{bytes_eq-Decides}
use Rattle.sqlite_rules.specs.Lists.{Has}
use Rattle.fv_datum.specs.Lookup.{at_name}
use Rattle.fv_declare_schema.specs.Declarations.{Declarations}
use Rattle.fv_engine_pending.specs.Judging.{AreListingsOf, IsListingOf, IsStanding, OneIsOverAmong}
use Rattle.fv_engine_pending.specs.Records.{AreJudged, OneIsOver, some_of, with_some}
use Rattle.fv_engine_pending.specs.Ways.{Way, standing_entry, standing}
use Rattle.fv_registry.specs.Meanings.{Meanings}
use Rattle.fv_store.specs.Records.{Kept}
use Rattle.fv_datum.specs.Ascending.{IsAscending}
use Rattle.fv_validate.specs.Violations.{Judged, Reported}

-- ---- each entry is found at its id, where the ids ascend

other_id : (b : Bool) (x y : List ℕ) → bytes_eq y x ≡ b → bytes_eq x y ≡ false → b ≡ false
other_id false x y is apart = refl
other_id true x y is apart = absurd (true≢false (sym ((bytes_eq-Decides x y).1 (sym ((bytes_eq-Decides y x).0 is))) ∙ apart))

below_apart : (x y : List ℕ) → slice_cmp nat_cmp x y ≡ Less → bytes_eq y x ≡ false
below_apart x y less = other_id (bytes_eq y x) x y refl (sym (is_eq-slice_cmp x y) ∙ ap is_eq less)

found_later : (e : List ℕ × Option Kept) (fs es : Way) → AllByRecursion (λ y. slice_cmp nat_cmp e.0 y ≡ Less) (keys_of fs) → AllByRecursion (λ f. at_name f.0 es ≡ Some f.1) fs → AllByRecursion (λ f. at_name f.0 (e ∷ es) ≡ Some f.1) fs
found_later e [] es below found = tt
found_later e (f ∷ fs) es below found = (ap (λ b. cond b (Some e.1) (at_name f.0 es)) (below_apart e.0 f.0 below.0) ∙ found.0, found_later e fs es below.1 found.1)

each_found : (es : Way) → IsAscending (keys_of es) → AllByRecursion (λ e. at_name e.0 es ≡ Some e.1) es
each_found [] ascending = tt
each_found (e ∷ es) ascending = (
  ap (λ b. cond b (Some e.1) (at_name e.0 es)) ((bytes_eq-Decides e.0 e.0).1 refl),
  found_later e es es (sorted_head (slice_cmp nat_cmp) e.0 (keys_of es) ascending) (each_found es (sorted_tail (slice_cmp nat_cmp) e.0 (keys_of es) ascending)),
)

-- ---- the records that stand

has_later : (id : List ℕ) (o : Option Kept) (ks : List (List ℕ × Kept)) (k : List ℕ × Kept) → Has ks k → Has (standing_entry id o ++ ks) k
has_later id None ks k has = has
has_later id (Some l) ks k has = inr has

has_here : (id i : List ℕ) (k : Kept) (o : Option Kept) (ks : List (List ℕ × Kept)) → id ≡ i → o ≡ Some k → Has (standing_entry i o ++ ks) (id, k)
has_here id i k None ks same is = cc
has_here id i k (Some l) ks same is =
    let kept : k ≡ l = cc in
    inl (ap (λ (x : List ℕ). (x, k)) same ∙ ap (λ (x : Kept). (i, x)) kept)

-- a record that is found at an id stands there
stands_there : (way : Way) (id : List ℕ) (k : Kept) → at_name id way ≡ Some (Some k) → Has (standing way) (id, k)
stands_there [] id k found = cc
stands_there (e ∷ es) id k found = at (bytes_eq id e.0) refl (stands_there es id k) found
  where
    at : (b : Bool) → bytes_eq id e.0 ≡ b → (at_name id es ≡ Some (Some k) → Has (standing es) (id, k)) → cond b (Some e.1) (at_name id es) ≡ Some (Some k) → Has (standing (e ∷ es)) (id, k)
    at true is ih here =
        let kept : e.1 ≡ Some k = cc in
        has_here id e.0 k e.1 (standing es) ((bytes_eq-Decides id e.0).0 is) kept
    at false is ih later = has_later e.0 e.1 (standing es) (id, k) (ih later)

found_entry : (way : Way) (e : List ℕ × Option Kept) (o : Option Kept) (es : Way) (k : List ℕ × Kept) → e.1 ≡ o → at_name e.0 way ≡ Some e.1 → (Has (standing es) k → at_name k.0 way ≡ Some (Some k.1)) → Has (standing_entry e.0 o ++ standing es) k → at_name k.0 way ≡ Some (Some k.1)
found_entry way e None es k is found ih has = ih has
found_entry way e (Some l) es k is found ih (inl here) =
    ap (λ (x : List ℕ × Kept). at_name x.0 way) here ∙ found ∙ ap (λ (x : Option Kept). Some x) is ∙ ap (λ (x : List ℕ × Kept). Some (Some x.1)) (sym here)
found_entry way e (Some l) es k is found ih (inr later) = ih later

found_in : (way es : Way) (k : List ℕ × Kept) → AllByRecursion (λ e. at_name e.0 way ≡ Some e.1) es → Has (standing es) k → at_name k.0 way ≡ Some (Some k.1)
found_in way [] k all has = absurd has
found_in way (e ∷ es) k all has = found_entry way e e.1 es k refl all.0 (found_in way es k all.1) has

-- a record that stands is found at its id
found_there : (way : Way) (k : List ℕ × Kept) → IsAscending (keys_of way) → Has (standing way) k → at_name k.0 way ≡ Some (Some k.1)
found_there way k ascending has = found_in way way k (each_found way ascending) has

below_entry : (low id : List ℕ) (o : Option Kept) (ks : List (List ℕ × Kept)) → slice_cmp nat_cmp low id ≡ Less → AllByRecursion (λ y. slice_cmp nat_cmp low y ≡ Less) (keys_of ks) → AllByRecursion (λ y. slice_cmp nat_cmp low y ≡ Less) (keys_of (standing_entry id o ++ ks))
below_entry low id None ks here all = all
below_entry low id (Some k) ks here all = (here, all)

below_standing : (low : List ℕ) (es : Way) → AllByRecursion (λ y. slice_cmp nat_cmp low y ≡ Less) (keys_of es) → AllByRecursion (λ y. slice_cmp nat_cmp low y ≡ Less) (keys_of (standing es))
below_standing low [] all = tt
below_standing low (e ∷ es) all = below_entry low e.0 e.1 (standing es) all.0 (below_standing low es all.1)

entry_ascends : (id : List ℕ) (o : Option Kept) (ks : List (List ℕ × Kept)) → AllByRecursion (λ y. slice_cmp nat_cmp id y ≡ Less) (keys_of ks) → IsAscending (keys_of ks) → IsAscending (keys_of (standing_entry id o ++ ks))
unfolding IsStrictlySortedBy
entry_ascends id None ks below all = all
entry_ascends id (Some k) ks below all = (below, all)

-- the ids of the records that stand ascend
standing_ascends : (es : Way) → IsAscending (keys_of es) → IsAscending (keys_of (standing es))
unfolding IsStrictlySortedBy
standing_ascends [] all = tt
standing_ascends (e ∷ es) all =
    entry_ascends e.0 e.1 (standing es) (below_standing e.0 es (sorted_head (slice_cmp nat_cmp) e.0 (keys_of es) all)) (standing_ascends es (sorted_tail (slice_cmp nat_cmp) e.0 (keys_of es) all))

-- ---- those of them that have violations

below_some : (low id : List ℕ) (vs : List Reported) (ls : List Judged) → slice_cmp nat_cmp low id ≡ Less → AllByRecursion (λ y. slice_cmp nat_cmp low y ≡ Less) (keys_of ls) → AllByRecursion (λ y. slice_cmp nat_cmp low y ≡ Less) (keys_of (some_of id vs ++ ls))
below_some low id [] ls here all = all
below_some low id (v ∷ vs) ls here all = (here, all)

below_those : (low : List ℕ) (ls : List Judged) → AllByRecursion (λ y. slice_cmp nat_cmp low y ≡ Less) (keys_of ls) → AllByRecursion (λ y. slice_cmp nat_cmp low y ≡ Less) (keys_of (with_some ls))
below_those low [] all = tt
below_those low (l ∷ ls) all = below_some low l.0 l.1 (with_some ls) all.0 (below_those low ls all.1)

some_ascend : (id : List ℕ) (vs : List Reported) (ls : List Judged) → AllByRecursion (λ y. slice_cmp nat_cmp id y ≡ Less) (keys_of ls) → IsAscending (keys_of ls) → IsAscending (keys_of (some_of id vs ++ ls))
unfolding IsStrictlySortedBy
some_ascend id [] ls below all = all
some_ascend id (v ∷ vs) ls below all = (below, all)

those_ascend : (ls : List Judged) → IsAscending (keys_of ls) → IsAscending (keys_of (with_some ls))
unfolding IsStrictlySortedBy
those_ascend [] all = tt
those_ascend (l ∷ ls) all =
    some_ascend l.0 l.1 (with_some ls) (below_those l.0 ls (sorted_head (slice_cmp nat_cmp) l.0 (keys_of ls) all)) (those_ascend ls (sorted_tail (slice_cmp nat_cmp) l.0 (keys_of ls) all))

-- each is one of all, and has some
one_of_all : (ls : List Judged) (l : Judged) → Has (with_some ls) l → Has ls l × (l.1 ≢ [])
one_of_all [] l has = absurd has
one_of_all (k ∷ ls) l has = at k.1 refl has (one_of_all ls l)
  where
    at : (vs : List Reported) → k.1 ≡ vs → Has (some_of k.0 vs ++ with_some ls) l → (Has (with_some ls) l → Has ls l × (l.1 ≢ [])) → Has (k ∷ ls) l × (l.1 ≢ [])
    at [] is later ih = let found = ih later in (inr found.0, found.1)
    at (v ∷ vs) is (inl here) ih = (
      inl (here ∙ ap (λ (ws : List Reported). (k.0, ws)) (sym is)),
      λ none. let never : v ∷ vs ≡ [] = sym (ap (λ (x : Judged). x.1) here) ∙ none in cc,
    )
    at (v ∷ vs) is (inr later) ih = let found = ih later in (inr found.0, found.1)

-- and one of all that has some is among them
among_those : (ls : List Judged) (id : List ℕ) (v : Reported) (vs : List Reported) → Has ls (id, v ∷ vs) → Has (with_some ls) (id, v ∷ vs)
among_those [] id v vs has = absurd has
among_those (k ∷ ls) id v vs (inl here) =
    subst (λ (x : Judged). Has (some_of x.0 x.1 ++ with_some ls) (id, v ∷ vs)) here (inl refl)
among_those (k ∷ ls) id v vs (inr later) = at k.1 (among_those ls id v vs later)
  where
    at : (ws : List Reported) → Has (with_some ls) (id, v ∷ vs) → Has (some_of k.0 ws ++ with_some ls) (id, v ∷ vs)
    at [] found = found
    at (w ∷ ws) found = inr found

-- ---- what they are judged as

module _ (means : Meanings) (ds : Declarations) (now : ℤ) where
  judged_ids : (ks : List (List ℕ × Kept)) (ls : List Judged) → AreJudged means ds now ks ls → keys_of ls ≡ keys_of ks
  judged_ids [] ls is = ap keys_of is
  judged_ids (k ∷ ks) ls (vs, rest, is, listing, more) = ap keys_of is ∙ ap (λ ns. k.0 ∷ ns) (judged_ids ks rest more)

  judged_sound : (ks : List (List ℕ × Kept)) (ls : List Judged) (l : Judged) → AreJudged means ds now ks ls → Has ls l → (k : Kept) × Has ks (l.0, k) × IsListingOf means ds now k l.1
  judged_sound [] ls l is has = absurd (subst (λ (xs : List Judged). Has xs l) is has)
  judged_sound (k ∷ ks) ls l (vs, rest, is, listing, more) has = at (subst (λ (xs : List Judged). Has xs l) is has) (judged_sound ks rest l more)
    where
      at : Has ((k.0, vs) ∷ rest) l → (Has rest l → (j : Kept) × Has ks (l.0, j) × IsListingOf means ds now j l.1) → (j : Kept) × Has (k ∷ ks) (l.0, j) × IsListingOf means ds now j l.1
      at (inl here) ih = (
        k.1,
        inl (ap (λ (x : Judged). (x.0, k.1)) here),
        subst (λ (ws : List Reported). IsListingOf means ds now k.1 ws) (ap (λ (x : Judged). x.1) (sym here)) listing,
      )
      at (inr later) ih = let found = ih later in (found.0, inr found.1, found.2)

  judged_complete : (ks : List (List ℕ × Kept)) (ls : List Judged) (k : List ℕ × Kept) → AreJudged means ds now ks ls → Has ks k → (vs : List Reported) × Has ls (k.0, vs) × IsListingOf means ds now k.1 vs
  judged_complete [] ls k is has = absurd has
  judged_complete (j ∷ ks) ls k (vs, rest, is, listing, more) has = at has (judged_complete ks rest k more)
    where
      at : Has (j ∷ ks) k → (Has ks k → (ws : List Reported) × Has rest (k.0, ws) × IsListingOf means ds now k.1 ws) → (ws : List Reported) × Has ls (k.0, ws) × IsListingOf means ds now k.1 ws
      at (inl here) ih = (
        vs,
        subst (λ (xs : List Judged). Has xs (k.0, vs)) (sym is) (inl (ap (λ (x : List ℕ × Kept). (x.0, vs)) here)),
        subst (λ (x : List ℕ × Kept). IsListingOf means ds now x.1 vs) (sym here) listing,
      )
      at (inr later) ih = let found = ih later in (found.0, subst (λ (xs : List Judged). Has xs (k.0, found.0)) (sym is) (inr found.1), found.2)

-- ---- the records among which they are

module _ (ds : Declarations) (Among : List ℕ → Kept → Type 0) (ks : List (List ℕ × Kept)) (back : (k : List ℕ × Kept) → Has ks k → Among k.0 k.1) where
  -- of records that were judged in order, those that have violations
  pub listings_of : (means : Meanings) (now : ℤ) (ls : List Judged) → AreJudged means ds now ks ls → IsAscending (keys_of ks) → ((id : List ℕ) (k : Kept) → Among id k → Has ks (id, k)) → AreListingsOf means ds now Among (with_some ls)
  listings_of means now ls judged ascending there = record {
    ascending = those_ascend ls (subst IsAscending (sym (judged_ids means ds now ks ls judged)) ascending);
    sound = λ l has.
        let one = one_of_all ls l has in
        let found = judged_sound means ds now ks ls l judged one.0 in
        (one.1, found.0, back (l.0, found.0) found.1, found.2);
    complete = λ id k is. let found = judged_complete means ds now ks ls (id, k) judged (there id k is) in at id k found.0 found.1 found.2;
  }
    where
      at : (id : List ℕ) (k : Kept) (vs : List Reported) → Has ls (id, vs) → IsListingOf means ds now k vs → IsListingOf means ds now k [] ⊎ ((ws : List Reported) × Has (with_some ls) (id, ws))
      at id k [] has listing = inl listing
      at id k (v ∷ vs) has listing = inr (v ∷ vs, among_those ls id v vs has)

  -- one that has too many visits is one of them
  pub over_of : OneIsOver ds ks → OneIsOverAmong ds Among
  over_of (k, has, over) = (k.0, k.1, back k has, over)

-- ---- the records that stand on the way

module _ (ds : Declarations) (way : Way) (ascending : IsAscending (keys_of way)) where
  -- of these, judged in order, those that have violations
  pub listings : (means : Meanings) (now : ℤ) (done ls : List Judged) → AreJudged means ds now (standing way) ls → done ≡ with_some ls → AreListingsOf means ds now (IsStanding way) done
  listings means now done ls judged is = subst (AreListingsOf means ds now (IsStanding way)) (sym is)
      (listings_of ds (IsStanding way) (standing way) (λ k has. found_there way k ascending has) means now ls judged (standing_ascends way ascending) (λ id k stands. stands_there way id k stands))

  -- one that has too many visits is one of them
  pub one_over : OneIsOver ds (standing way) → OneIsOverAmong ds (IsStanding way)
  one_over = over_of ds (IsStanding way) (standing way) (λ k has. found_there way k ascending has)
