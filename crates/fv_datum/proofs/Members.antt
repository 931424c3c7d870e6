-- Members in the order of their keys: they stay in order, they are put in again as they stand, and what is found at each key says all of them.
use Rattle.std.proofs.Common.{◌≡◌, ◌⊎◌, inl, inr, ℕ, List, Ordering, Less, Equal, Greater, nat_cmp, Option, Some, None, refl, sym, ap, subst, ◌∙◌}
use Rattle.std.specs.List.{AllByRecursion}
use Rattle.std.specs.List.Sorted.{IsStrictlySortedBy}
use Rattle.std.specs.Map.{keys_of}
use Rattle.std.specs.Ordering.{match_ordering, ordering_reverse}
use Rattle.std.specs.Cmp.Lexicographic.{slice_cmp}
use Rattle.std.proofs.lemmas.Cmp.{nat_list_cmp_total, tied_itself}
use Rattle.std.proofs.lemmas.Map.Lookups.{exact_bytes}
use Rattle.serde_json.specs.Data.{Data, Members, no_members, member, put}
use Rattle.serde_json.specs.Find.{get_member}
use Rattle.fv_datum.specs.Members.{pairs}
use Rattle.fv_datum.specs.Ascending.{IsAscending}

-- each key is above this one
abbrev pub AreAbove : List ℕ → Members → Type 0
AreAbove k no_members = Unit {0}
AreAbove k (member l d ms) = (slice_cmp nat_cmp k l ≡ Less) × AreAbove k ms

abbrev pub AreAscending : Members → Type 0
AreAscending no_members = Unit {0}
AreAscending (member k d ms) = AreAbove k ms × AreAscending ms

-- the members put in one after another
abbrev pub all_put : Members → Members → Members
all_put found no_members = found
all_put found (member k d ms) = all_put (put k d found) ms

-- ---- a member is put in

above_more : (k l : List ℕ) (ms : Members) → slice_cmp nat_cmp k l ≡ Less → AreAbove l ms → AreAbove k ms
above_more k l no_members less h = tt
above_more k l (member m d ms) less h = (nat_list_cmp_total.trans k l m less h.0, above_more k l ms less h.1)

turned : (k l : List ℕ) → slice_cmp nat_cmp k l ≡ Greater → slice_cmp nat_cmp l k ≡ Less
turned k l greater = nat_list_cmp_total.antisymm l k ∙ ap ordering_reverse greater

above_put : (q k : List ℕ) (d : Data) (ms : Members) → slice_cmp nat_cmp q k ≡ Less → AreAbove q ms → AreAbove q (put k d ms)
above_put q k d no_members less h = (less, tt)
above_put q k d (member l e ms) less h = at (slice_cmp nat_cmp k l) (above_put q k d ms less h.1)
  where
    at : (o : Ordering) → AreAbove q (put k d ms) → AreAbove q (match_ordering o (member k d (member l e ms)) (member l d ms) (member l e (put k d ms)))
    at Less later = (less, h)
    at Equal later = h
    at Greater later = (h.0, later)

pub ascending_put : (k : List ℕ) (d : Data) (ms : Members) → AreAscending ms → AreAscending (put k d ms)
ascending_put k d no_members h = (tt, tt)
ascending_put k d (member l e ms) h = at (slice_cmp nat_cmp k l) refl (ascending_put k d ms h.1)
  where
    at : (o : Ordering) → slice_cmp nat_cmp k l ≡ o → AreAscending (put k d ms) → AreAscending (match_ordering o (member k d (member l e ms)) (member l d ms) (member l e (put k d ms)))
    at Less is later = ((is, above_more k l ms is h.0), h)
    at Equal is later = h
    at Greater is later = (above_put l k d ms (turned k l is) h.0, later)

-- ---- all members are put in

abbrev behind : Members → Members → Members
behind no_members ms = ms
behind (member k d found) ms = member k d (behind found ms)

behind_nil : (found : Members) → behind found no_members ≡ found
behind_nil no_members = refl
behind_nil (member k d found) = ap (member k d) (behind_nil found)

behind_one : (found : Members) (k : List ℕ) (d : Data) (ms : Members) → behind (behind found (member k d no_members)) ms ≡ behind found (member k d ms)
behind_one no_members k d ms = refl
behind_one (member l e found) k d ms = ap (member l e) (behind_one found k d ms)

above_last : (q k : List ℕ) (d : Data) (found ms : Members) → AreAbove q (behind found (member k d ms)) → slice_cmp nat_cmp q k ≡ Less
above_last q k d no_members ms h = h.0
above_last q k d (member l e found) ms h = above_last q k d found ms h.1

-- a key above all others goes last
put_last : (found : Members) (k : List ℕ) (d : Data) (ms : Members) → AreAscending (behind found (member k d ms)) → put k d found ≡ behind found (member k d no_members)
put_last no_members k d ms h = refl
put_last (member l e found) k d ms h =
    let less = above_last l k d found ms h.0 in
    let greater : slice_cmp nat_cmp k l ≡ Greater = nat_list_cmp_total.antisymm k l ∙ ap ordering_reverse less in
    rw greater (ap (member l e) (put_last found k d ms h.1))

all_put_behind : (found ms : Members) → AreAscending (behind found ms) → all_put found ms ≡ behind found ms
all_put_behind found no_members h = sym (behind_nil found)
all_put_behind found (member k d ms) h =
    let more = behind found (member k d no_members) in
    ap (λ f. all_put f ms) (put_last found k d ms h) ∙ all_put_behind more ms (subst AreAscending (sym (behind_one found k d ms)) h) ∙ behind_one found k d ms

pub put_again : (ms : Members) → AreAscending ms → all_put no_members ms ≡ ms
put_again ms h = all_put_behind no_members ms h

-- ---- the same in other words

below_keys : (k : List ℕ) (ms : Members) → AreAbove k ms → AllByRecursion (λ l. slice_cmp nat_cmp k l ≡ Less) (keys_of (pairs ms))
below_keys k no_members h = tt
below_keys k (member l d ms) h = (h.0, below_keys k ms h.1)

pub ascending_keys : (ms : Members) → AreAscending ms → IsAscending (keys_of (pairs ms))
unfolding IsStrictlySortedBy
ascending_keys no_members h = tt
ascending_keys (member k d ms) h = (below_keys k ms h.0, ascending_keys ms h.1)

-- ---- what is found at each key says all of them

none_above : (q : List ℕ) (ms : Members) → AreAbove q ms → get_member q ms ≡ None
none_above q no_members h = refl
none_above q (member l d ms) h = rw h.0 (none_above q ms h.1)

found_first : (k : List ℕ) (d : Data) (ms : Members) → get_member k (member k d ms) ≡ Some d
found_first k d ms = rw (tied_itself nat_list_cmp_total k) refl

-- what is found behind a first member
same_behind : (k : List ℕ) (d e : Data) (gs hs : Members) → AreAbove k gs → AreAbove k hs → ((q : List ℕ) → get_member q (member k d gs) ≡ get_member q (member k e hs)) → (q : List ℕ) → get_member q gs ≡ get_member q hs
same_behind k d e gs hs g h same q = at (slice_cmp nat_cmp q k) refl (same q)
  where
    at : (o : Ordering) → slice_cmp nat_cmp q k ≡ o → match_ordering o (get_member q gs) (Some d) (get_member q gs) ≡ match_ordering o (get_member q hs) (Some e) (get_member q hs) → get_member q gs ≡ get_member q hs
    at Less is found = found
    at Equal is found = rw (exact_bytes q k is) (none_above k gs g ∙ sym (none_above k hs h))
    at Greater is found = found

-- where the first members have one key
one_key : (k l : List ℕ) (d e : Data) (gs hs : Members) → k ≡ l → AreAbove k gs → AreAbove l hs → ((q : List ℕ) → get_member q (member k d gs) ≡ get_member q (member l e hs)) → (((q : List ℕ) → get_member q gs ≡ get_member q hs) → gs ≡ hs)
    → member k d gs ≡ member l e hs
one_key k l d e gs hs key g h same rest =
    let found : (q : List ℕ) → get_member q (member k d gs) ≡ get_member q (member k e hs) = λ q. same q ∙ ap (λ n. get_member q (member n e hs)) (sym key) in
    let above : AreAbove k hs = subst (λ (n : List ℕ). AreAbove n hs) (sym key) h in
    let both : Some d ≡ Some e = sym (found_first k d gs) ∙ found k ∙ found_first k e hs in
    let datum : d ≡ e = cc in
    let behind_them : gs ≡ hs = rest (same_behind k d e gs hs g above found) in
    cc

pub same_members : (gs hs : Members) → AreAscending gs → AreAscending hs → ((q : List ℕ) → get_member q gs ≡ get_member q hs) → gs ≡ hs
same_members no_members no_members g h same = refl
same_members no_members (member l e hs) g h same = let none : None ≡ Some e = same l ∙ found_first l e hs in cc
same_members (member k d gs) no_members g h same = let none : Some d ≡ None = sym (found_first k d gs) ∙ same k in cc
same_members (member k d gs) (member l e hs) g h same = at (slice_cmp nat_cmp k l) refl (same_members gs hs g.1 h.1)
  where
    at : (o : Ordering) → slice_cmp nat_cmp k l ≡ o → (((q : List ℕ) → get_member q gs ≡ get_member q hs) → gs ≡ hs) → member k d gs ≡ member l e hs
    at Less is rest =
        let none : get_member k (member l e hs) ≡ None = none_above k (member l e hs) (is, above_more k l hs is h.0) in
        let no : Some d ≡ None = sym (found_first k d gs) ∙ same k ∙ none in
        cc
    at Greater is rest =
        let less = turned k l is in
        let none : get_member l (member k d gs) ≡ None = none_above l (member k d gs) (less, above_more l k gs less g.0) in
        let no : None ≡ Some e = sym none ∙ same l ∙ found_first l e hs in
        cc
    at Equal is rest = one_key k l d e gs hs (exact_bytes k l is) g.0 h.0 same rest

-- ---- what holds of each member

found_at : (o : Ordering) (e j : Data) (rest : Option Data) → match_ordering o rest (Some e) rest ≡ Some j → (rest ≡ Some j) ⊎ (e ≡ j)
found_at Less e j rest is = inl is
found_at Equal e j rest is = inr cc
found_at Greater e j rest is = inl is

-- it holds of the one that is found at a key
pub each_found : (P : Data → Type 0) (q : List ℕ) (ms : Members) (j : Data) → AllByRecursion (λ m. P m.1) (pairs ms) → get_member q ms ≡ Some j → P j
each_found P q no_members j all is = cc
each_found P q (member l e ms) j all is = elim (found_at (slice_cmp nat_cmp q l) e j (get_member q ms) is) [
  | inl more ↦ each_found P q ms j all.1 more
  | inr here ↦ subst P here all.0
]

pub each_put : (P : Data → Type 0) (k : List ℕ) (d : Data) (ms : Members) → P d → AllByRecursion (λ m. P m.1) (pairs ms) → AllByRecursion (λ m. P m.1) (pairs (put k d ms))
each_put P k d no_members p all = (p, tt)
each_put P k d (member l e ms) p all = at (slice_cmp nat_cmp k l) (each_put P k d ms p all.1)
  where
    at : (o : Ordering) → AllByRecursion (λ m. P m.1) (pairs (put k d ms)) → AllByRecursion (λ m. P m.1) (pairs (match_ordering o (member k d (member l e ms)) (member l d ms) (member l e (put k d ms))))
    at Less later = (p, all)
    at Equal later = (p, all.1)
    at Greater later = (all.0, later)
