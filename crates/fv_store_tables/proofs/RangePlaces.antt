-- Places in the order of their rowids, and what halving them finds.
use Rattle.std.proofs.Common.{◌≡◌, ◌⊎◌, ◌++◌, ◌+◌, ◌^◌, ◌<◌, ◌≤◌, ◌<ℤ◌, ◌≤ℤ◌, inl, inr, zero, suc, ℕ, ℤ, Bool, true, false, cond, not, List, [], ◌∷◌, length, map, take, drop, get_or, bytes_eq, Some, refl, sym, ap, subst, subst₂, ◌∙◌, arith}
use Rattle.std.specs.List.{AllByRecursion}
use Rattle.std.specs.Ordering.{is_lt, is_le, is_ge, int_cmp}
use Rattle.std.proofs.lemmas.Int.{ints}
use Rattle.std.proofs.lemmas.Bool.{and_parts, and_from}
use Rattle.std.proofs.lemmas.Bool.Decides.{nat_tests}
use Rattle.std.proofs.lemmas.List.{take-append-drop, length-map, length-take, length-drop}
use Rattle.std.proofs.lemmas.Slice.Eq.{bytes_eq-Decides}
use Rattle.sqlite.specs.Collation.TheVariants.{Binary}
use Rattle.sqlite.specs.declared.types.Value.{Value}
use Rattle.sqlite.specs.declared.types.Value.TheVariants.{Int, Text}
use Rattle.sqlite.specs.Ops.{binary, is_true, from_truth}
use Rattle.sqlite.specs.Order.{Row}
use Rattle.sqlite.specs.Tree.{IsAscending}
use Rattle.sqlite_sql.specs.declared.ops.BinaryOp.TheVariants.{Compare}
use Rattle.sqlite_sql.specs.declared.ops.CompareOp.TheVariants.{Ge, Le, Lt}
use Rattle.sqlite_value.proofs.OrderLemmas.{value_cmp-Int}
use Rattle.sqlite_rules.specs.Lists.{Has}
use Rattle.sqlite_rules.proofs.ListLemmas.{all_has, all_from, has_left, has_right, has_either}
use Rattle.sqlite_trees.proofs.ListLemmas.{all_weaker}
use Rattle.fv_store_tables.proofs.Named.{element}
use Rattle.fv_store_tables.specs.declared.entry.FoundRow.{FoundRow}
use Rattle.fv_store_tables.specs.declared.text.ObjectText.{ObjectText}
use Rattle.fv_store_tables.specs.Stands.{NumberedThing}
use Rattle.fv_store_tables.specs.Changes.{NamedTexts, AllTexts, found_view, object_view, objects_view}
use Rattle.fv_store_tables.specs.Updating.{Follow, under_rowids, filled, place_values, range_values}
use Rattle.fv_store_tables.proofs.Objects.{same_id}
use Rattle.fv_store_tables.proofs.OneTable.{truth_of, equal_texts}
use Rattle.fv_store_tables.proofs.RangeTexts.{below_first, halved, last_of, passes_range}

-- ---- rows and the objects in their places

pub partner : (n : ℤ) (rs : List NumberedThing) (os : AllTexts) → Follow n rs os → (r : NumberedThing) → Has rs r → (o : NamedTexts) × Has (under_rowids rs os) (r.0, o) × (o.0 ≡ r.1.0)
partner n [] os follow r h = absurd h
partner n (x ∷ rs) [] follow r h = absurd follow
partner n (x ∷ rs) (o ∷ os) follow r (inl is) = (o, inl (ap (λ (e : NumberedThing). (e.0, o)) is), sym (ap (λ (e : NumberedThing). e.1.0) is ∙ follow.1))
partner n (x ∷ rs) (o ∷ os) follow r (inr later) = let mate = partner x.0 rs os follow.2 r later in (mate.0, inr mate.1, mate.2)

pub origin : (n : ℤ) (rs : List NumberedThing) (os : AllTexts) → Follow n rs os → (z : NumberedThing) → Has (under_rowids rs os) z → (r : NumberedThing) × Has rs r × (r.0 ≡ z.0) × (r.1.0 ≡ z.1.0)
origin n [] os follow z h = absurd h
origin n (x ∷ rs) [] follow z h = absurd follow
origin n (x ∷ rs) (o ∷ os) follow z (inl is) = (x, inl refl, sym (ap (λ (e : NumberedThing). e.0) is), follow.1 ∙ sym (ap (λ (e : NumberedThing). e.1.0) is))
origin n (x ∷ rs) (o ∷ os) follow z (inr later) = let r = origin x.0 rs os follow.2 z later in (r.0, inr r.1, r.2, r.3)

-- each of the objects is in some place
pub placed : (n : ℤ) (rs : List NumberedThing) (os : AllTexts) → Follow n rs os → (o : NamedTexts) → Has os o → (i : ℤ) × Has (under_rowids rs os) (i, o)
placed n rs [] follow o h = absurd h
placed n [] (x ∷ os) follow o h = absurd follow
placed n (r ∷ rs) (x ∷ os) follow o (inl is) = (r.0, inl (ap (λ (e : NamedTexts). (r.0, e)) is))
placed n (r ∷ rs) (x ∷ os) follow o (inr later) = let p = placed r.0 rs os follow.2 o later in (p.0, inr p.1)

-- and no other is
pub object_of : (rs : List NumberedThing) (os : AllTexts) (z : NumberedThing) → Has (under_rowids rs os) z → Has os z.1
object_of [] os z h = absurd h
object_of (x ∷ rs) [] z h = absurd h
object_of (x ∷ rs) (o ∷ os) z (inl is) = inl (ap (λ (e : NumberedThing). e.1) is)
object_of (x ∷ rs) (o ∷ os) z (inr later) = inr (object_of rs os z later)

pub long_under : (n : ℤ) (rs : List NumberedThing) (os : AllTexts) → Follow n rs os → length (under_rowids rs os) ≡ length rs
long_under n [] os follow = refl
long_under n (x ∷ rs) [] follow = absurd follow
long_under n (x ∷ rs) (o ∷ os) follow = ap suc (long_under x.0 rs os follow.2)

-- ---- rowids that rise

-- one place is before another, or they are the same
abbrev pub Rises : NumberedThing → NumberedThing → Type 0
Rises a b = (a.0 <ℤ b.0) ⊎ (a ≡ b)

higher : (m n i : ℤ) → m <ℤ n → n <ℤ i → m <ℤ i
higher m n i one two = omega (arith, ints, one, two)

above : (n : ℤ) (rs : List NumberedThing) (os : AllTexts) → Follow n rs os → AllByRecursion (λ (z : NumberedThing). n <ℤ z.0) (under_rowids rs os)
above n [] os follow = tt
above n (x ∷ rs) [] follow = tt
above n (x ∷ rs) (o ∷ os) follow =
    (follow.0, all_weaker (λ (z : NumberedThing). x.0 <ℤ z.0) (λ (z : NumberedThing). n <ℤ z.0) (λ z more. higher n x.0 z.0 follow.0 more) (under_rowids rs os) (above x.0 rs os follow.2))

pub rises : (n : ℤ) (rs : List NumberedThing) (os : AllTexts) → Follow n rs os → IsAscending Rises (under_rowids rs os)
rises n [] os follow = tt
rises n (x ∷ rs) [] follow = tt
rises n (x ∷ rs) (o ∷ os) follow =
    (all_weaker (λ (z : NumberedThing). x.0 <ℤ z.0) (Rises (x.0, o)) (λ z more. inl more) (under_rowids rs os) (above x.0 rs os follow.2), rises x.0 rs os follow.2)

-- ---- places that are filled

pub long_filled : (n : ℕ) (ps : List NumberedThing) → 0 < length ps → length (filled n ps) ≡ n
long_filled zero ps some = refl
long_filled (suc n) [] some = absurd (omega (arith, some))
long_filled (suc n) (p ∷ []) some = ap suc (long_filled n (p ∷ []) some)
long_filled (suc n) (p ∷ q ∷ ps) some = ap suc (long_filled n (q ∷ ps) (omega arith))

filled_has : (n : ℕ) (ps : List NumberedThing) (z : NumberedThing) → Has (filled n ps) z → Has ps z
filled_has zero ps z h = absurd h
filled_has (suc n) [] z h = absurd h
filled_has (suc n) (p ∷ []) z (inl is) = inl is
filled_has (suc n) (p ∷ []) z (inr later) = filled_has n (p ∷ []) z later
filled_has (suc n) (p ∷ q ∷ ps) z (inl is) = inl is
filled_has (suc n) (p ∷ q ∷ ps) z (inr later) = inr (filled_has n (q ∷ ps) z later)

pub has_filled : (n : ℕ) (ps : List NumberedThing) (z : NumberedThing) → length ps ≤ n → Has ps z → Has (filled n ps) z
has_filled zero [] z few h = absurd h
has_filled zero (p ∷ ps) z few h = absurd (omega (arith, few))
has_filled (suc n) [] z few h = absurd h
has_filled (suc n) (p ∷ []) z few (inl is) = inl is
has_filled (suc n) (p ∷ []) z few (inr none) = absurd none
has_filled (suc n) (p ∷ q ∷ ps) z few (inl is) = inl is
has_filled (suc n) (p ∷ q ∷ ps) z few (inr later) = inr (has_filled n (q ∷ ps) z (omega (arith, few)) later)

all_filled : (P : NumberedThing → Type 0) (n : ℕ) (ps : List NumberedThing) → AllByRecursion P ps → AllByRecursion P (filled n ps)
all_filled P n ps all = all_from P (filled n ps) (λ z h. all_has P ps z all (filled_has n ps z h))

pub rises_filled : (n : ℕ) (ps : List NumberedThing) → IsAscending Rises ps → IsAscending Rises (filled n ps)
rises_filled zero ps up = tt
rises_filled (suc n) [] up = tt
rises_filled (suc n) (p ∷ []) up =
    (all_from (Rises p) (filled n (p ∷ [])) (λ z h. elim (filled_has n (p ∷ []) z h) [ inl is ↦ inr (sym is) | inr none ↦ absurd none ]), rises_filled n (p ∷ []) up)
rises_filled (suc n) (p ∷ q ∷ ps) up = (all_filled (Rises p) n (q ∷ ps) up.0, rises_filled n (q ∷ ps) up.1)

-- ---- two lists of places, one behind the other

up_before : (xs ys : List NumberedThing) → IsAscending Rises (xs ++ ys) → IsAscending Rises xs
up_before [] ys up = tt
up_before (x ∷ xs) ys up = (all_from (Rises x) xs (λ z h. all_has (Rises x) (xs ++ ys) z up.0 (has_left xs ys z h)), up_before xs ys up.1)

up_behind : (xs ys : List NumberedThing) → IsAscending Rises (xs ++ ys) → IsAscending Rises ys
up_behind [] ys up = up
up_behind (x ∷ xs) ys up = up_behind xs ys up.1

up_across : (xs ys : List NumberedThing) → IsAscending Rises (xs ++ ys) → (a : NumberedThing) → Has xs a → (b : NumberedThing) → Has ys b → Rises a b
up_across [] ys up a h b among = absurd h
up_across (x ∷ xs) ys up a (inl is) b among = subst (λ (e : NumberedThing). Rises e b) (sym is) (all_has (Rises x) (xs ++ ys) b up.0 (has_right xs ys b among))
up_across (x ∷ xs) ys up a (inr later) b among = up_across xs ys up.1 a later b among

-- ---- comparisons

less_is : (i n : ℤ) → is_true (binary (Compare Lt Binary) (Int i) (Int n)) ≡ is_lt (int_cmp i n)
unfolding binary
less_is i n = ap (λ o. is_true (from_truth (Some (is_lt o)))) (value_cmp-Int i n) ∙ truth_of _

below_is : (i n : ℤ) → is_true (binary (Compare Le Binary) (Int i) (Int n)) ≡ is_le (int_cmp i n)
unfolding binary
below_is i n = ap (λ o. is_true (from_truth (Some (is_le o)))) (value_cmp-Int i n) ∙ truth_of _

above_is : (i n : ℤ) → is_true (binary (Compare Ge Binary) (Int i) (Int n)) ≡ is_ge (int_cmp i n)
unfolding binary
above_is i n = ap (λ o. is_true (from_truth (Some (is_ge o)))) (value_cmp-Int i n) ∙ truth_of _

less_from : (i n : ℤ) → i <ℤ n → is_lt (int_cmp i n) ≡ true
less_from i n h = grind (arith, ints, nat_tests)

less_to : (i n : ℤ) → is_lt (int_cmp i n) ≡ true → i <ℤ n
less_to i n h = grind (arith, ints, nat_tests)

le_from : (i n : ℤ) → i ≤ℤ n → is_le (int_cmp i n) ≡ true
le_from i n h = grind (arith, ints, nat_tests)

ge_from : (i n : ℤ) → n ≤ℤ i → is_ge (int_cmp i n) ≡ true
ge_from i n h = grind (arith, ints, nat_tests)

le_same : (i n : ℤ) → i ≡ n → i ≤ℤ n
le_same i n is = grind (arith, ints, nat_tests, is)

never_less : (i n : ℤ) → i <ℤ n → n <ℤ i → ⊥
never_less i n one two = omega (arith, ints, one, two)

never_itself : (i n : ℤ) → i <ℤ n → i ≡ n → ⊥
never_itself i n less is = let again : i <ℤ i = subst (λ k. i <ℤ k) (sym is) less in never_less i i again again

-- ---- what halving finds

-- a place that is below the first is none of these
not_below : (z : NumberedThing) (hs : List NumberedThing) → below_first z.0 hs ≡ true → IsAscending Rises hs → Has hs z → ⊥
not_below z [] below up h = h
not_below z (p ∷ hs) below up (inl is) = never_itself z.0 p.0 (less_to z.0 p.0 (sym (less_is z.0 p.0) ∙ below)) (ap (λ (e : NumberedThing). e.0) is)
not_below z (p ∷ hs) below up (inr later) =
    let less = less_to z.0 p.0 (sym (less_is z.0 p.0) ∙ below) in
    elim (all_has (Rises p) hs z up.0 later) [
      | inl more ↦ never_less z.0 p.0 less more
      | inr same ↦ never_itself z.0 p.0 less (sym (ap (λ (e : NumberedThing). e.0) same))
    ]

-- and one that is before these and not below the first is the first
first_is : (z : NumberedThing) (hs : List NumberedThing) → below_first z.0 hs ≡ false → ((b : NumberedThing) → Has hs b → Rises z b) → Has hs z
first_is z [] other before = absurd (let wrong : true ≡ false = other in cc)
first_is z (p ∷ hs) other before = elim (before p (inl refl)) [
  | inl less ↦ absurd (let is : is_true (binary (Compare Lt Binary) (Int z.0) (Int p.0)) ≡ true = less_is z.0 p.0 ∙ less_from z.0 p.0 less in cc (is, other))
  | inr same ↦ inl same
]

half_front : (d : ℕ) (ps : List NumberedThing) → length ps ≡ 2 ^ suc d → length (take (2 ^ d) ps) ≡ 2 ^ d
half_front d ps long = length-take (2 ^ d) ps ∙ grind (arith, nat_tests, long)

half_back : (d : ℕ) (ps : List NumberedThing) → length ps ≡ 2 ^ suc d → length (drop (2 ^ d) ps) ≡ 2 ^ d
half_back d ps long = length-drop (2 ^ d) ps ∙ omega (arith, long)

pub halved_is : (show : NumberedThing → Value) (d : ℕ) (ps : List NumberedThing) → length ps ≡ 2 ^ d → IsAscending Rises ps → (z : NumberedThing) → Has ps z → halved show d ps z.0 ≡ show z
halved_is show zero [] long up z h = absurd h
halved_is show zero (p ∷ []) long up z (inl is) = ap show (sym is)
halved_is show zero (p ∷ []) long up z (inr none) = absurd none
halved_is show zero (p ∷ q ∷ ps) long up z h = absurd (omega (arith, long))
halved_is show (suc d) ps long up z h =
    let split = take-append-drop (2 ^ d) ps in
    let both = subst (IsAscending Rises) (sym split) up in
    let in_either = has_either (take (2 ^ d) ps) (drop (2 ^ d) ps) z (subst (λ l. Has l z) (sym split) h) in
    go (take (2 ^ d) ps) (drop (2 ^ d) ps) both in_either (halved_is show d (take (2 ^ d) ps) (half_front d ps long) (up_before (take (2 ^ d) ps) (drop (2 ^ d) ps) both) z)
    (halved_is show d (drop (2 ^ d) ps) (half_back d ps long) (up_behind (take (2 ^ d) ps) (drop (2 ^ d) ps) both) z) (below_first z.0 (drop (2 ^ d) ps)) refl
  where
    go : (ls hs : List NumberedThing) → IsAscending Rises (ls ++ hs) → Has ls z ⊎ Has hs z → (Has ls z → halved show d ls z.0 ≡ show z) → (Has hs z → halved show d hs z.0 ≡ show z)
        → (b : Bool) → below_first z.0 hs ≡ b → cond b (halved show d ls z.0) (halved show d hs z.0) ≡ show z
    go ls hs up either low high true below = low (elim either [ inl left ↦ left | inr right ↦ absurd (not_below z hs below (up_behind ls hs up) right) ])
    go ls hs up either low high false other = high (elim either [ inl left ↦ first_is z hs other (λ b among. up_across ls hs up z left b among) | inr right ↦ right ])

-- ---- what passes

last_has : (p : NumberedThing) (ps : List NumberedThing) → Has (p ∷ ps) (last_of p ps)
last_has p [] = inl refl
last_has p (q ∷ ps) = inr (last_has q ps)

no_more : (a b : NumberedThing) → Rises a b → a.0 ≤ℤ b.0
no_more a b (inl less) = omega (arith, ints, less)
no_more a b (inr same) = le_same a.0 b.0 (ap (λ (e : NumberedThing). e.0) same)

to_last : (p : NumberedThing) (ps : List NumberedThing) → IsAscending Rises (p ∷ ps) → (z : NumberedThing) → Has (p ∷ ps) z → z.0 ≤ℤ (last_of p ps).0
to_last p [] up z (inl is) = le_same z.0 p.0 (ap (λ (e : NumberedThing). e.0) is)
to_last p [] up z (inr none) = absurd none
to_last p (q ∷ ps) up z (inl is) =
    subst (λ (e : NumberedThing). e.0 ≤ℤ (last_of q ps).0) (sym is) (no_more p (last_of q ps) (all_has (Rises p) (q ∷ ps) (last_of q ps) up.0 (last_has q ps)))
to_last p (q ∷ ps) up z (inr later) = to_last q ps up.1 z later

from_first : (p : NumberedThing) (ps : List NumberedThing) → IsAscending Rises (p ∷ ps) → (z : NumberedThing) → Has (p ∷ ps) z → p.0 ≤ℤ z.0
from_first p ps up z (inl is) = le_same p.0 z.0 (sym (ap (λ (e : NumberedThing). e.0) is))
from_first p ps up z (inr later) = no_more p z (all_has (Rises p) ps z up.0 later)

pub passes : (id : List ℕ) (ps : List NumberedThing) → IsAscending Rises ps → (z : NumberedThing) → Has ps z → passes_range z.0 id id ps ≡ true
passes id [] up z h = absurd h
passes id (p ∷ ps) up z h =
    and_from _ _ (above_is z.0 p.0 ∙ ge_from z.0 p.0 (from_first p ps up z h))
    (and_from _ _ (below_is z.0 (last_of p ps).0 ∙ le_from z.0 (last_of p ps).0 (to_last p ps up z h)) (and_from _ _ (equal_texts id id ∙ same_id id) refl))

-- and it is of the record
pub passed_is : (n : ℤ) (rec id : List ℕ) (ps : List NumberedThing) → passes_range n rec id ps ≡ true → rec ≡ id
passed_is n rec id [] passed = absurd (let wrong : false ≡ true = passed in cc)
passed_is n rec id (p ∷ ps) passed = (bytes_eq-Decides rec id).0 (sym (equal_texts rec id) ∙ (and_parts _ _ (and_parts _ _ (and_parts _ _ passed).1).1).0)

-- ---- as the code has them

pub same_length : (n : ℤ) (rs : List FoundRow) (os : List ObjectText) → Follow n (map found_view rs) (objects_view os) → length rs ≡ length os
same_length n [] [] follow = refl
same_length n [] (o ∷ os) follow = absurd follow
same_length n (r ∷ rs) [] follow = absurd follow
same_length n (r ∷ rs) (o ∷ os) follow = ap suc (same_length r.rowid rs os follow.2)

-- names that do not differ are the same
pub same_names : (a b : List ℕ) (r : Bool) → r ≡ not (bytes_eq a b) → r ≡ false → a ≡ b
same_names a b r is none = (bytes_eq-Decides a b).0 (go (bytes_eq a b) (sym is ∙ none))
  where
    go : (t : Bool) → not t ≡ false → t ≡ true
    go true e = refl
    go false e = sym e

-- a row more
pub follow_more : (last : ℤ) (rs : List FoundRow) (os : List ObjectText) (at : ℕ) (r : FoundRow) (o : ObjectText) → drop at rs ≡ r ∷ drop (at + 1) rs → drop at os ≡ o ∷ drop (at + 1) os → last <ℤ r.rowid
    → r.name.now ≡ o.name.now → Follow r.rowid (map found_view (drop (at + 1) rs)) (objects_view (drop (at + 1) os)) → Follow last (map found_view (drop at rs)) (objects_view (drop at os))
follow_more last rs os at r o one two up same rest = subst₂ (λ (xs : List FoundRow) (ys : List ObjectText). Follow last (map found_view xs) (objects_view ys)) (sym one) (sym two) (up, same, rest)

-- ---- its parameters

one_filled : (n : ℕ) (p : NumberedThing) → filled (suc n) (p ∷ []) ≡ filled n (p ∷ []) ++ p ∷ []
one_filled zero p = refl
one_filled (suc n) p = ap (λ (l : List NumberedThing). p ∷ l) (one_filled n p)

-- a place more
filled_more : (n at : ℕ) (ps : List NumberedThing) → at < length ps → (at ≡ n) ⊎ ((length ps ≤ n) × (at + 1 ≡ length ps)) → (z : NumberedThing) → z ≡ get_or ps at z → filled (suc n) ps ≡ filled n ps ++ z ∷ []
filled_more n at [] below which z is = absurd (omega (arith, below))
filled_more n zero (p ∷ []) below which z is = subst (λ (e : NumberedThing). filled (suc n) (p ∷ []) ≡ filled n (p ∷ []) ++ e ∷ []) (sym is) (one_filled n p)
filled_more n (suc at) (p ∷ []) below which z is = absurd (omega (arith, below))
filled_more zero zero (p ∷ q ∷ ps) below which z is = ap (λ (e : NumberedThing). e ∷ []) (sym is)
filled_more zero (suc at) (p ∷ q ∷ ps) below (inl same) z is = absurd (omega (arith, same))
filled_more zero (suc at) (p ∷ q ∷ ps) below (inr past) z is = absurd (omega (arith, past.0))
filled_more (suc n) zero (p ∷ q ∷ ps) below (inl same) z is = absurd (omega (arith, same))
filled_more (suc n) zero (p ∷ q ∷ ps) below (inr past) z is = absurd (omega (arith, past.1))
filled_more (suc n) (suc at) (p ∷ q ∷ ps) below (inl same) z is = ap (λ (l : List NumberedThing). p ∷ l) (filled_more n at (q ∷ ps) (omega (arith, below)) (inl (omega (arith, same))) z is)
filled_more (suc n) (suc at) (p ∷ q ∷ ps) below (inr past) z is =
    ap (λ (l : List NumberedThing). p ∷ l) (filled_more n at (q ∷ ps) (omega (arith, below)) (inr (omega (arith, past.0), omega (arith, past.1))) z is)

place_at : (rs : List FoundRow) (os : List ObjectText) (at : ℕ) (r : FoundRow) (o : ObjectText) → at < length rs → at < length os → r ≡ get_or rs at r → o ≡ get_or os at o
    → (at < length (under_rowids (map found_view rs) (objects_view os))) × ((r.rowid, object_view o) ≡ get_or (under_rowids (map found_view rs) (objects_view os)) at (r.rowid, object_view o))
place_at [] os at r o one two row object = absurd (omega (arith, one))
place_at (x ∷ rs) [] at r o one two row object = absurd (omega (arith, two))
place_at (x ∷ rs) (y ∷ os) zero r o one two row object = (omega arith, λ i. ((row i).rowid, object_view (object i)))
place_at (x ∷ rs) (y ∷ os) (suc at) r o one two row object = let it = place_at rs os at r o (omega (arith, one)) (omega (arith, two)) row object in (omega (arith, it.0), it.1)

place_values-append : (xs ys : List NumberedThing) → place_values (xs ++ ys) ≡ place_values xs ++ place_values ys
place_values-append [] ys = refl
place_values-append (x ∷ xs) ys = ap (λ (l : Row). Int x.0 ∷ Text x.1.1.kind ∷ Text x.1.1.fields ∷ l) (place_values-append xs ys)

pub values_more : (n : ℤ) (id : List ℕ) (rs : List FoundRow) (os : List ObjectText) → Follow n (map found_view rs) (objects_view os) → (k at : ℕ) (r : FoundRow) (o : ObjectText) → at < length rs
    → (at ≡ k) ⊎ ((length rs ≤ k) × (at + 1 ≡ length rs)) → r ≡ get_or rs at r → o ≡ get_or os at o
    → range_values id (filled (k + 1) (under_rowids (map found_view rs) (objects_view os))) ≡ range_values id (filled k (under_rowids (map found_view rs) (objects_view os))) ++ place_values ((r.rowid, object_view o) ∷ [])
values_more n id rs os follow k at r o below which row object =
    let ps = under_rowids (map found_view rs) (objects_view os) in
    let long : length ps ≡ length rs = long_under n (map found_view rs) (objects_view os) follow ∙ length-map rs found_view in
    let place = place_at rs os at r o below (omega (arith, below, same_length n rs os follow)) row object in
    let more : k + 1 ≡ suc k = omega arith in
    let where_it_is : (at ≡ k) ⊎ ((length ps ≤ k) × (at + 1 ≡ length ps)) = elim which [ inl same ↦ inl same | inr past ↦ inr (omega (arith, past.0, long), past.1 ∙ sym long) ] in
    ap (λ (l : Row). Text id ∷ l) (ap (λ (n : ℕ). place_values (filled n ps)) more ∙ ap place_values (filled_more k at ps place.0 where_it_is (r.rowid, object_view o) place.1) ∙ place_values-append (filled k ps) ((r.rowid, object_view o) ∷ []))

-- the same, as the code has it
pub place_pushed : (n : ℤ) (id : List ℕ) (rs : List FoundRow) (os : List ObjectText) → Follow n (map found_view rs) (objects_view os) → (k at : ℕ) (d : FoundRow) (o : ObjectText) → at < length rs
    → (at ≡ k) ⊎ ((length rs ≤ k) × (at + 1 ≡ length rs)) → o ≡ get_or os at o → (before after : Row) → before ≡ range_values id (filled k (under_rowids (map found_view rs) (objects_view os)))
    → after ≡ before ++ place_values (((get_or rs at d).rowid, object_view o) ∷ []) → after ≡ range_values id (filled (k + 1) (under_rowids (map found_view rs) (objects_view os)))
place_pushed n id rs os follow k at d o below which object before after was pushed =
    let r = get_or rs at d in
    pushed ∙ ap (λ (l : Row). l ++ place_values ((r.rowid, object_view o) ∷ [])) was ∙ sym (values_more n id rs os follow k at r o below which (element rs at d r below) object)
