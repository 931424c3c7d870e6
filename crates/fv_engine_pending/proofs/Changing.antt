-- The changes that leave records so.
use Rattle.std.proofs.Common.{◌≡◌, ℕ, ◌+◌, ◌*◌, ◌≤◌, List, [], ◌∷◌, ◌++◌, map, length, Bool, true, false, cond, Option, Some, None, Less, Bor, nat_cmp, bytes_eq, append-nil, refl, sym, ap, subst, ◌∙◌, arith}
use Rattle.std.proofs.Math.Path.{fun_ext}
use Rattle.std.specs.Cmp.Lexicographic.{slice_cmp}
use Rattle.std.specs.List.{AllByRecursion}
use Rattle.std.specs.List.Sorted.{IsStrictlySortedBy}
use Rattle.std.specs.Map.{keys_of}
use Rattle.std.specs.Ordering.{is_eq}
use Rattle.std.specs.Prelude.{unwrap_or}
use Rattle.std.proofs.lemmas.List.{length-append}
use Rattle.std.proofs.lemmas.Map.Keys.{sorted_head, sorted_tail}
use Rattle.std.proofs.lemmas.Map.Text.{is_eq-slice_cmp}
use Rattle.std.proofs.lemmas.Slice.Eq.{bytes_eq-Decides}
use Rattle.fv_datum.specs.Lookup.{at_name}
use Rattle.fv_engine_pending.specs.Altering.{Altered, leaves, sets, altered, leaves_entry, most_rows}
use Rattle.fv_engine_pending.specs.Fits.{AreFit, AreTyped, EachIsShort}
use Rattle.fv_engine_pending.specs.Ways.{Way, way_entry, overlay, standing, standing_entry}
use Rattle.fv_bundle.specs.Bundles.{Thing}
use Rattle.fv_bundle.specs.WellTyped.{IsWellTyped}
use Rattle.fv_store.specs.Causes.{AreShort as ChangesShort, WritesShort, IsShort, IsShortObject, rows_of, rows_of_all}
use Rattle.fv_store.specs.Changes.{after, after_all, ChangeFits, ChangesFit}
use Rattle.fv_store.specs.Records.{Kept, Records, Roots, RecordFits, with_object, with_thing}
use Rattle.fv_store.specs.declared.changes.Change.{Change}
use Rattle.fv_store.specs.declared.changes.Change.TheVariants.{Put, Object, Remove}
use Rattle.fv_store.specs.declared.stored.Stored.{Stored}
use Rattle.fv_datum.specs.Ascending.{IsAscending}
use Rattle.fv_bundle.specs.Types.{Declared}
use Rattle.std.specs.Option.{ForSome}

-- what leaves an entry of the code's map so
abbrev pub leaves_kept : Bor (List ℕ) × Option Stored → Altered
leaves_kept e = leaves_entry (way_entry e)

twice : (es : List (Bor (List ℕ) × Option Stored)) → map leaves_kept es ≡ map leaves_entry (map way_entry es)
twice [] = refl
twice (e ∷ es) = ap (λ (xs : List Altered). leaves_kept e ∷ xs) (twice es)

-- none is left
pub all_made : (done : List Change) (left all : List (Bor (List ℕ) × Option Stored)) → left ≡ [] → map altered done ++ map leaves_kept left ≡ map leaves_kept all → map altered done ≡ map leaves_entry (map way_entry all)
all_made done left all none was = sym (append-nil (map altered done)) ∙ ap (λ es. map altered done ++ map leaves_kept es) (sym none) ∙ was ∙ twice all

-- the ids of a map ascend
below_way : (id : List ℕ) (es : List (Bor (List ℕ) × Option Stored)) → AllByRecursion (λ y. slice_cmp nat_cmp id y.now ≡ Less) (keys_of es) → AllByRecursion (λ y. slice_cmp nat_cmp id y ≡ Less) (keys_of (map way_entry es))
below_way id [] h = tt
below_way id (e ∷ es) h = (h.0, below_way id es h.1)

pub way-ascends : (es : List (Bor (List ℕ) × Option Stored)) → IsStrictlySortedBy (λ (a b : Bor (List ℕ)). slice_cmp nat_cmp a.now b.now) (keys_of es) → IsAscending (keys_of (map way_entry es))
unfolding IsStrictlySortedBy
way-ascends [] h = tt
way-ascends (e ∷ es) h = (below_way e.0.now es h.0, way-ascends es h.1)

-- nothing stands at an id below the others
none_above : (id : List ℕ) (way : Way) → AllByRecursion (λ y. slice_cmp nat_cmp id y ≡ Less) (keys_of way) → at_name id way ≡ None
none_above id [] h = refl
none_above id (e ∷ es) h = ap (λ b. cond b (Some e.1) (at_name id es)) (sym (is_eq-slice_cmp id e.0) ∙ ap is_eq h.0) ∙ none_above id es h.1

-- ---- one change, by what it does

-- what it makes of the records
abbrev pub makes : Altered → Records → Records
makes (leaves id o) m = λ q. cond (bytes_eq q id) o (m q)
makes (sets id name t) m = with_object id name t m

pub makes_so : (c : Change) (m : Records) → after c m ≡ makes (altered c) m
makes_so (Put id s) m = refl
makes_so (Object id name object) m = refl
makes_so (Remove id) m = refl

-- what it leaves fits
abbrev pub LeavesFit : Declared → Roots → Altered → Records → Type 0
LeavesFit types forms (leaves id o) m = ForSome o (RecordFits types forms)
LeavesFit types forms (sets id name t) m = (k : Kept) → m id ≡ Some k → RecordFits types forms (with_thing name t k)

pub fits_so : (types : Declared) (forms : Roots) (c : Change) (m : Records) → LeavesFit types forms (altered c) m → ChangeFits types forms c m
fits_so types forms (Put id s) m h = h _ refl
fits_so types forms (Object id name object) m h = h
fits_so types forms (Remove id) m h = tt

-- and is short
abbrev pub LeavesShort : Altered → Type 0
LeavesShort (leaves id o) = ForSome o (IsShort id)
LeavesShort (sets id name t) = IsShortObject id (name, t)

pub short_so : (c : Change) → LeavesShort (altered c) → WritesShort c
short_so (Put id s) h = h _ refl
short_so (Object id name object) h = h
short_so (Remove id) h = tt

-- how many rowids it takes
abbrev pub taken : Altered → ℕ
taken (leaves id None) = 0
taken (leaves id (Some k)) = 1 + length k.bundle.objects
taken (sets id name t) = 0

pub taken_so : (c : Change) → rows_of c ≡ taken (altered c)
taken_so (Put id s) = refl
taken_so (Object id name object) = refl
taken_so (Remove id) = refl

-- ---- the changes of what stands on the way

over : (b : Bool) (new old : Option Kept) (later : Option (Option Kept)) → (b ≡ true → later ≡ None) → unwrap_or later (cond b new old) ≡ unwrap_or (cond b (Some new) later) old
over true new old later none = ap (λ o. unwrap_or o new) (none refl)
over false new old later none = refl

each_after : (cs : List Change) (way : Way) (m : Records) (q : List ℕ) → map altered cs ≡ map leaves_entry way → IsAscending (keys_of way) → after_all cs m q ≡ overlay way m q
each_after [] [] m q is ascending = refl
each_after [] (e ∷ es) m q is ascending = cc
each_after (c ∷ cs) [] m q is ascending = cc
each_after (c ∷ cs) (e ∷ es) m q is ascending =
    let first : altered c ≡ leaves_entry e = cc in
    let rest : map altered cs ≡ map leaves_entry es = cc in
    let below = sorted_head (slice_cmp nat_cmp) e.0 (keys_of es) ascending in
    each_after cs es (after c m) q rest (sorted_tail (slice_cmp nat_cmp) e.0 (keys_of es) ascending)
    ∙ ap (λ (n : Records). unwrap_or (at_name q es) (n q)) (makes_so c m ∙ ap (λ (a : Altered). makes a m) first)
    ∙ over (bytes_eq q e.0) e.1 (m q) (at_name q es) (λ same. ap (λ id. at_name id es) ((bytes_eq-Decides q e.0).0 same) ∙ none_above e.0 es below)

-- where the ids ascend, the records after the changes have what stands on the way
pub after_changes : (cs : List Change) (way : Way) → map altered cs ≡ map leaves_entry way → IsAscending (keys_of way) → (m : Records) → after_all cs m ≡ overlay way m
after_changes cs way is ascending m = fun_ext (λ q. each_after cs way m q is ascending)

-- changes fit where the records on the way do
pub changes_fit : (cs : List Change) (way : Way) → map altered cs ≡ map leaves_entry way → (types : Declared) (forms : Roots) (m : Records) → AreFit types forms way → ChangesFit types forms cs m
changes_fit [] way is types forms m h = tt
changes_fit (c ∷ cs) [] is types forms m h = cc
changes_fit (c ∷ cs) (e ∷ es) is types forms m h =
    let first : altered c ≡ leaves_entry e = cc in
    let rest : map altered cs ≡ map leaves_entry es = cc in
    (fits_so types forms c m (subst (λ (a : Altered). LeavesFit types forms a m) (sym first) h.0), changes_fit cs es rest types forms (after c m) h.1)

-- are short where they are
pub changes_short : (cs : List Change) (way : Way) → map altered cs ≡ map leaves_entry way → EachIsShort way → ChangesShort cs
changes_short [] way is h = tt
changes_short (c ∷ cs) [] is h = cc
changes_short (c ∷ cs) (e ∷ es) is h =
    let first : altered c ≡ leaves_entry e = cc in
    let rest : map altered cs ≡ map leaves_entry es = cc in
    (short_so c (subst LeavesShort (sym first) h.0), changes_short cs es rest h.1)

few_taken : (types : Declared) (id : List ℕ) (o : Option Kept) → ForSome o (λ k. IsWellTyped types k.bundle) → taken (leaves id o) ≤ most_rows * length (standing_entry id o)
few_taken types id None h = omega arith
few_taken types id (Some k) h =
    let typed = h k refl in
    omega (arith, typed.few)

-- and take as many rowids as the well-typed records that stand there do, at most
pub changes_rows : (cs : List Change) (way : Way) → map altered cs ≡ map leaves_entry way → (types : Declared) → AreTyped types way → rows_of_all cs ≤ most_rows * length (standing way)
changes_rows [] way is types h = omega arith
changes_rows (c ∷ cs) [] is types h = cc
changes_rows (c ∷ cs) (e ∷ es) is types h =
    let first : altered c ≡ leaves_entry e = cc in
    let rest : map altered cs ≡ map leaves_entry es = cc in
    let one : rows_of c ≡ taken (leaves e.0 e.1) = taken_so c ∙ ap taken first in
    let few = few_taken types e.0 e.1 h.0 in
    let more = changes_rows cs es rest types h.1 in
    let sum = length-append (standing_entry e.0 e.1) (standing es) in
    omega (arith, one, few, more, sum)

-- ---- the change of one object

-- an object that is found there is short where all are
pub short_object : (id name : List ℕ) (t : Thing) (os : List (List ℕ × Thing)) → AllByRecursion (IsShortObject id) os → at_name name os ≡ Some t → IsShortObject id (name, t)
short_object id name t [] all found = cc
short_object id name t (o ∷ os) all found = at (bytes_eq name o.0) refl found (λ later. short_object id name t os all.1 later)
  where
    at : (b : Bool) → bytes_eq name o.0 ≡ b → cond b (Some o.1) (at_name name os) ≡ Some t → (at_name name os ≡ Some t → IsShortObject id (name, t)) → IsShortObject id (name, t)
    at true same is rest =
        let there : o.1 ≡ t = cc in
        let here : o ≡ (name, t) = ap (λ (n : List ℕ). (n, o.1)) (sym ((bytes_eq-Decides name o.0).0 same)) ∙ ap (λ (u : Thing). (name, u)) there in
        subst (IsShortObject id) here all.0
    at false same is rest = rest is
