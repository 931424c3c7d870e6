-- Members that are written as their names come.
use Rattle.std.proofs.Common.{◌≡◌, ◌&&◌, ℕ, List, [], ◌∷◌, ◌++◌, Bool, true, false, cond, if◌then◌else◌, Ordering, Less, Equal, Greater, nat_cmp, map, refl, sym, ap, ◌∙◌, append_assoc}
use Rattle.std.specs.List.{fold}
use Rattle.std.specs.List.Sorted.{IsStrictlySortedBy}
use Rattle.std.specs.Map.{keys_of}
use Rattle.std.specs.Ordering.{is_lt, ordering_reverse}
use Rattle.std.specs.Cmp.Lexicographic.{slice_cmp}
use Rattle.std.proofs.lemmas.Bool.{and_parts, and_from}
use Rattle.std.proofs.lemmas.Cmp.{nat_list_cmp_total}
use Rattle.json.specs.Token.{Token, begin_object, end_object}
use Rattle.json.specs.Tree.{members_tokens}
use Rattle.serde_json.specs.Data as json
use Rattle.serde_json.specs.Written.{members_outline}
use Rattle.fv_datum.specs.Data.{Data}
use Rattle.fv_datum.specs.Written.{is_null}
use Rattle.fv_bundle.specs.Bundles.{IsAscending, Thing, Things}
use Rattle.fv_bundle.specs.Writing.{datum_json}
use Rattle.fv_model.specs.Writing.{thing_json}

abbrev pub Named : Type 0
Named = List ℕ × json.Data

-- the members, in the order in which they come
abbrev pub members_of : List Named → json.Members
members_of [] = json.no_members
members_of (e ∷ es) = json.member e.0 e.1 (members_of es)

-- each name is above the one before it, the first above `last`
abbrev pub rises : List ℕ → List Named → Bool
rises last [] = true
rises last (e ∷ es) = is_lt (slice_cmp nat_cmp last e.0) && rises e.0 es

-- the fields that aren't null
abbrev pub shown : List (List ℕ × Data) → List Named
shown [] = []
shown (f ∷ fs) = if is_null f.1 then shown fs else (f.0, datum_json f.1) ∷ shown fs

-- an object with its name
abbrev pub named : List ℕ × Thing → Named
named o = (o.0, thing_json o.1)

-- ---- they are the members that `put` makes

-- the members with each field that isn't null put in
abbrev pub added : json.Members → List (List ℕ × Data) → json.Members
added = fold (λ ms f. if is_null f.1 then ms else json.put f.0 (datum_json f.1) ms)

-- the members with each object put in
abbrev pub objects_added : json.Members → List (List ℕ × Thing) → json.Members
objects_added = fold (λ ms o. json.put o.0 (thing_json o.1) ms)

abbrev pub put_all : json.Members → List Named → json.Members
put_all ms [] = ms
put_all ms (e ∷ es) = put_all (json.put e.0 e.1 ms) es

pick : (b : Bool) (ms : json.Members) (e : Named) (es : List Named) → put_all (cond b ms (json.put e.0 e.1 ms)) es ≡ put_all ms (cond b es (e ∷ es))
pick true ms e es = refl
pick false ms e es = refl

added-put_all : (ms : json.Members) (fs : List (List ℕ × Data)) → added ms fs ≡ put_all ms (shown fs)
added-put_all ms [] = refl
added-put_all ms (f ∷ fs) = added-put_all (cond (is_null f.1) ms (json.put f.0 (datum_json f.1) ms)) fs ∙ pick (is_null f.1) ms (f.0, datum_json f.1) (shown fs)

objects_added-put_all : (ms : json.Members) (os : List (List ℕ × Thing)) → objects_added ms os ≡ put_all ms (map named os)
objects_added-put_all ms [] = refl
objects_added-put_all ms (o ∷ os) = objects_added-put_all (json.put o.0 (thing_json o.1) ms) os

less : (o : Ordering) → is_lt o ≡ true → o ≡ Less
less Less e = refl
less Equal e = cc
less Greater e = cc

lower : (k l : List ℕ) (es : List Named) → slice_cmp nat_cmp k l ≡ Less → rises l es ≡ true → rises k es ≡ true
lower k l [] below h = refl
lower k l (e ∷ es) below h = let parts = and_parts _ _ h in and_from _ _ (ap is_lt (nat_list_cmp_total.trans k l e.0 below (less _ parts.0))) parts.1

pub put_all-member : (k : List ℕ) (d : json.Data) (ms : json.Members) (es : List Named) → rises k es ≡ true → put_all (json.member k d ms) es ≡ json.member k d (put_all ms es)
put_all-member k d ms [] h = refl
put_all-member k d ms (e ∷ es) h =
    let parts = and_parts _ _ h in
    let below : slice_cmp nat_cmp k e.0 ≡ Less = less _ parts.0 in
    let above : slice_cmp nat_cmp e.0 k ≡ Greater = nat_list_cmp_total.antisymm e.0 k ∙ ap ordering_reverse below in
    rw above (put_all-member k d (json.put e.0 e.1 ms) es (lower k e.0 es below parts.1))

pub put_all-in_order : (last : List ℕ) (es : List Named) → rises last es ≡ true → put_all json.no_members es ≡ members_of es
put_all-in_order last [] h = refl
put_all-in_order last (e ∷ es) h = let parts = and_parts _ _ h in put_all-member e.0 e.1 json.no_members es parts.1 ∙ ap (json.member e.0 e.1) (put_all-in_order e.0 es parts.1)

pub added-in_order : (fs : List (List ℕ × Data)) → rises [] (shown fs) ≡ true → added json.no_members fs ≡ members_of (shown fs)
added-in_order fs h = added-put_all json.no_members fs ∙ put_all-in_order [] (shown fs) h

pub objects_added-in_order : (os : List (List ℕ × Thing)) → rises [] (map named os) ≡ true → objects_added json.no_members os ≡ members_of (map named os)
objects_added-in_order os h = objects_added-put_all json.no_members os ∙ put_all-in_order [] (map named os) h

-- the first name may be any
pub put_all-first : (e : Named) (es : List Named) → rises e.0 es ≡ true → put_all json.no_members (e ∷ es) ≡ members_of (e ∷ es)
put_all-first e es h = put_all-member e.0 e.1 json.no_members es h ∙ ap (json.member e.0 e.1) (put_all-in_order e.0 es h)

ascending_rises : (k : List ℕ) (os : Things) → IsAscending (k ∷ keys_of os) → rises k (map named os) ≡ true
unfolding IsStrictlySortedBy
ascending_rises k [] h = refl
ascending_rises k (o ∷ os) h = and_from _ _ (ap is_lt h.0.0) (ascending_rises o.0 os h.1)

-- objects whose names ascend are the members in their order
pub objects_in_order : (os : Things) → IsAscending (keys_of os) → objects_added json.no_members os ≡ members_of (map named os)
objects_in_order [] h = refl
objects_in_order (o ∷ os) h = objects_added-put_all json.no_members (o ∷ os) ∙ put_all-first (named o) (map named os) (ascending_rises o.0 os h)

-- ---- their tokens

-- the tokens of the members, to the closing brace
abbrev pub member_tokens : List Named → List Token
member_tokens es = members_tokens (members_outline (members_of es))

-- once none is left, the object is closed
pub closes : (old begun now new : List Token) (all rest : List Named) → begun ≡ old ++ begin_object ∷ [] → now ++ member_tokens rest ≡ begun ++ member_tokens all → rest ≡ []
    → new ≡ now ++ end_object ∷ [] → new ≡ old ++ begin_object ∷ member_tokens all
closes old begun now new all rest begins writes none ends =
    ends ∙ ap (λ es. now ++ member_tokens es) (sym none) ∙ writes ∙ ap (λ ts. ts ++ member_tokens all) begins ∙ append_assoc old (begin_object ∷ []) (member_tokens all)
