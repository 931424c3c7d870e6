-- The records on the way fit, and go on doing so.
use Rattle.std.proofs.Common.{◌≡◌, ℕ, List, [], ◌∷◌, ◌++◌, Bool, true, false, cond, Option, Some, None, Ordering, Less, Equal, Greater, Result, Ok, Err, bytes_eq, nat_cmp, refl, sym, ap, subst, ◌∙◌, true≢false}
use Rattle.std.specs.Cmp.Lexicographic.{slice_cmp}
use Rattle.std.specs.List.{AllByRecursion}
use Rattle.std.specs.Map.{keys_of}
use Rattle.std.specs.Option.{ForSome}
use Rattle.std.specs.Ordering.{is_eq, match_ordering}
use Rattle.std.specs.Prelude.{unwrap_or}
use Rattle.std.proofs.lemmas.Map.Keys.{sorted_head, sorted_tail}
use Rattle.std.proofs.lemmas.Map.Text.{is_eq-slice_cmp}
use Rattle.std.proofs.lemmas.Slice.Eq.{bytes_eq-Decides}
use Rattle.serde_json.specs.Data as json
use Rattle.fv_datum.specs.Lookup.{at_name}
use Rattle.fv_bundle.specs.Bundles.{Bundled}
use Rattle.fv_bundle.specs.WellTyped.{IsWellTyped, HasRootType}
use Rattle.fv_engine_pending.specs.Fits.{Agrees, AreTyped, AreFit, AreShort, EachIsShort, AreFitting, Keeps}
use Rattle.fv_engine_pending.specs.Steps.{Staged, put_step, set_step, remove_step, left_as, removed_on, StepFits}
use Rattle.fv_engine_pending.specs.Ways.{Way, standing_at, left_at, without_id}
use Rattle.fv_engine_pending.specs.declared.fault.PartFault.{PartFault}
use Rattle.fv_engine_pending.proofs.Made.{at_left, at_without}
use Rattle.fv_store.specs.Causes.{IsShort}
use Rattle.fv_store.specs.Records.{Kept, Records, Roots, RecordFits}
use Rattle.fv_datum.specs.Ascending.{IsAscending}
use Rattle.fv_bundle.specs.Types.{Declared}

-- ---- each entry is found at its id, where the ids ascend

other_id : (b : Bool) (x y : List ℕ) → bytes_eq y x ≡ b → bytes_eq x y ≡ false → b ≡ false
other_id false x y is apart = refl
other_id true x y is apart = absurd (true≢false (sym ((bytes_eq-Decides x y).1 (sym ((bytes_eq-Decides y x).0 is))) ∙ apart))

below_apart : (x y : List ℕ) → slice_cmp nat_cmp x y ≡ Less → bytes_eq y x ≡ false
below_apart x y less = other_id (bytes_eq y x) x y refl (sym (is_eq-slice_cmp x y) ∙ ap is_eq less)

found_later : (e : List ℕ × Option Kept) (fs es : Way) → AllByRecursion (λ y. slice_cmp nat_cmp e.0 y ≡ Less) (keys_of fs) → AllByRecursion (λ f. at_name f.0 es ≡ Some f.1) fs → AllByRecursion (λ f. at_name f.0 (e ∷ es) ≡ Some f.1) fs
found_later e [] es below found = tt
found_later e (f ∷ fs) es below found = (ap (λ b. cond b (Some e.1) (at_name f.0 es)) (below_apart e.0 f.0 below.0) ∙ found.0, found_later e fs es below.1 found.1)

each_found : (es : Way) → IsAscending (keys_of es) → AllByRecursion (λ e. at_name e.0 es ≡ Some e.1) es
each_found [] ascending = tt
each_found (e ∷ es) ascending = (
  ap (λ b. cond b (Some e.1) (at_name e.0 es)) ((bytes_eq-Decides e.0 e.0).1 refl),
  found_later e es es (sorted_head (slice_cmp nat_cmp) e.0 (keys_of es) ascending) (each_found es (sorted_tail (slice_cmp nat_cmp) e.0 (keys_of es) ascending)),
)

-- what holds of each record that stands at an id
of_entries : (P : List ℕ → Kept → Type 0) (way fs : Way) → ((id : List ℕ) (k : Kept) → at_name id way ≡ Some (Some k) → P id k) → AllByRecursion (λ f. at_name f.0 way ≡ Some f.1) fs → AllByRecursion (λ f. ForSome f.1 (P f.0)) fs
of_entries P way [] each found = tt
of_entries P way (f ∷ fs) each found = (λ k is. each f.0 k (found.0 ∙ ap (λ o. Some o) is), of_entries P way fs each found.1)

pub all_fit : (types : Declared) (forms : Roots) (way : Way) → IsAscending (keys_of way) → AreFitting types forms way → AreFit types forms way
all_fit types forms way ascending fitting = of_entries (λ id. RecordFits types forms) way way fitting (each_found way ascending)

pub shorts : (way : Way) → IsAscending (keys_of way) → AreShort way → EachIsShort way
shorts way ascending short = of_entries IsShort way way short (each_found way ascending)

-- what is found in records that fit, fits
pub agreeing_fit : (types : Declared) (forms : Roots) (way : Way) (m : Records) → Agrees way m → ((id : List ℕ) (k : Kept) → m id ≡ Some k → RecordFits types forms k) → AreFitting types forms way
agreeing_fit types forms way m agrees fit id k stands = fit id k (agrees id (Some k) stands)

-- ---- what a step leaves

-- what holds of each record that stands on the way
abbrev Each : (Kept → Type 0) → Way → Type 0
Each Q = AllByRecursion (λ e. ForSome e.1 Q)

module _ (Q : Kept → Type 0) where
  each_left : (id : List ℕ) (o : Option Kept) (way : Way) → ForSome o Q → Each Q way → Each Q (left_at id o way)
  each_left id o [] new all = (new, tt)
  each_left id o (e ∷ es) new all = at (slice_cmp nat_cmp id e.0) (each_left id o es new all.1)
    where
      at : (c : Ordering) → Each Q (left_at id o es) → Each Q (match_ordering c ((id, o) ∷ e ∷ es) ((e.0, o) ∷ es) (e ∷ left_at id o es))
      at Less ih = (new, all)
      at Equal ih = (new, all.1)
      at Greater ih = (all.0, ih)

  each_without : (id : List ℕ) (way : Way) → Each Q way → Each Q (without_id id way)
  each_without id [] all = tt
  each_without id (e ∷ es) all = at (bytes_eq id e.0) (each_without id es all.1)
    where
      at : (b : Bool) → Each Q (without_id id es) → Each Q (cond b es (e ∷ without_id id es))
      at true ih = all.1
      at false ih = (all.0, ih)

  each_standing : (id : List ℕ) (way : Way) (k : Kept) → Each Q way → standing_at id way ≡ Some k → Q k
  each_standing id [] k all stands = cc
  each_standing id (e ∷ es) k all stands = at (bytes_eq id e.0) (each_standing id es k all.1) stands
    where
      at : (b : Bool) → (standing_at id es ≡ Some k → Q k) → unwrap_or (cond b (Some e.1) (at_name id es)) None ≡ Some k → Q k
      at true ih is = all.0 k is
      at false ih is = ih is

  -- the same by ids
  abbrev EachAt : Way → Type 0
  EachAt way = (id : List ℕ) (k : Kept) → at_name id way ≡ Some (Some k) → Q k

  at_either : (o : Option Kept) (b : Bool) (found : Option (Option Kept)) (k : Kept) → ForSome o Q → (found ≡ Some (Some k) → Q k) → cond b (Some o) found ≡ Some (Some k) → Q k
  at_either o true found k new old is = new k (cc)
  at_either o false found k new old is = old is

  each_at_left : (id : List ℕ) (o : Option Kept) (v w : Way) → ((q : List ℕ) → bytes_eq q id ≡ false → at_name q v ≡ at_name q w) → ForSome o Q → EachAt w → EachAt (left_at id o v)
  each_at_left id o v w others new all q k stands = at_either o (bytes_eq q id) (at_name q w) k new (all q k) (sym (at_left id o v w others q) ∙ stands)

stands_at : (o : Option (Option Kept)) (k : Kept) → unwrap_or o None ≡ Some k → o ≡ Some (Some k)
stands_at None k is = cc
stands_at (Some x) k is = ap (λ (y : Option Kept). Some y) is

only : (Q : Kept → Type 0) (k : Kept) → Q k → ForSome (Some k) Q
only Q k holds l is =
    let same : k ≡ l = cc in
    subst Q same holds

none : (Q : Kept → Type 0) → ForSome None Q
none Q l is = cc

pub keeps_put : (types : Declared) (id form : List ℕ) (way new : Way) (r : Result Bundled PartFault) → left_as id form way r ≡ Ok new → Keeps types (put_step id form r ∷ []) way new
keeps_put types id form way new (Ok b) e forms fit =
    let kept : Kept = record { form = form; bundle = b } in
    let same : left_at id (Some kept) way ≡ new = cc in
    let fits : RecordFits types forms kept = fit.0 in (
      λ all. subst (AreTyped types) same (each_left (λ k. IsWellTyped types k.bundle) id (Some kept) way (only (λ k. IsWellTyped types k.bundle) kept fits.typed) all),
      λ all. subst (AreFitting types forms) same (each_at_left (RecordFits types forms) id (Some kept) way way (λ q other. refl) (only (RecordFits types forms) kept fits) all),
    )
keeps_put types id form way new (Err fault) e forms fit = cc

pub keeps_remove : (types : Declared) (id : List ℕ) (way new : Way) (o : Option Kept) → removed_on id way o ≡ Ok new → Keeps types (remove_step id ∷ []) way new
keeps_remove types id way new None e forms fit = cc
keeps_remove types id way new (Some k) e forms fit =
    let same : left_at id None (without_id id way) ≡ new = cc in (
      λ all. subst (AreTyped types) same (each_left (λ l. IsWellTyped types l.bundle) id None (without_id id way) (none (λ l. IsWellTyped types l.bundle)) (each_without (λ l. IsWellTyped types l.bundle) id way all)),
      λ all. subst (AreFitting types forms) same (each_at_left (RecordFits types forms) id None (without_id id way) way (at_without id way) (none (RecordFits types forms)) all),
    )

-- a record with a bundle that is as well-typed, with a root of the same type, in its place
pub keeps_set : (types : Declared) (id object field : List ℕ) (j : json.Data) (way new : Way) (k : Kept) (b : Bundled) → Some k ≡ standing_at id way → (IsWellTyped types k.bundle → IsWellTyped types b)
    → ((type : List ℕ) → HasRootType type k.bundle → HasRootType type b) → left_at id (Some (record { form = k.form; bundle = b })) (without_id id way) ≡ new → Keeps types (set_step id object field j ∷ []) way new
keeps_set types id object field j way new k b stands typed rooted same forms fit =
    let kept : Kept = record { form = k.form; bundle = b } in (
      λ all. subst (AreTyped types) same (each_left (λ l. IsWellTyped types l.bundle) id (Some kept) (without_id id way)
          (only (λ l. IsWellTyped types l.bundle) kept (typed (each_standing (λ l. IsWellTyped types l.bundle) id way k all (sym stands)))) (each_without (λ l. IsWellTyped types l.bundle) id way all)),
      λ all. subst (AreFitting types forms) same (
          let fits : RecordFits types forms k = all id k (stands_at (at_name id way) k (sym stands)) in
          each_at_left (RecordFits types forms) id (Some kept) (without_id id way) way (at_without id way)
          (only (RecordFits types forms) kept (record { root = fits.root; declared = fits.declared; typed = typed fits.typed; rooted = rooted fits.root fits.rooted })) all),
    )

-- ---- steps in order

pub keeps_none : (types : Declared) (way : Way) → Keeps types [] way way
keeps_none types way forms fit = (λ all. all, λ all. all)

first_fit : (P : Staged → Type 0) (ss ts : List Staged) → AllByRecursion P (ss ++ ts) → AllByRecursion P ss × AllByRecursion P ts
first_fit P [] ts all = (tt, all)
first_fit P (s ∷ ss) ts all = let more = first_fit P ss ts all.1 in ((all.0, more.0), more.1)

pub keeps_more : (types : Declared) (ss ts : List Staged) (way mid new : Way) → Keeps types ss way mid → Keeps types ts mid new → Keeps types (ss ++ ts) way new
keeps_more types ss ts way mid new one two forms fit =
    let parts = first_fit (StepFits types forms) ss ts fit in
    let before = one forms parts.0 in
    let after = two forms parts.1 in
    (λ all. after.0 (before.0 all), λ all. after.1 (before.1 all))
