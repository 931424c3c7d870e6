-- Places by what stands at their members' names.
use Rattle.std.proofs.Common.{◌≡◌, ◌<◌, ◌≤◌, ◌⊎◌, inl, inr, ℕ, List, [], ◌∷◌, Ordering, Less, Equal, Greater, Option, Some, None, nat_cmp, refl, ap, option_map, option_and_then, codes, if◌then◌else◌, max, arith}
use Rattle.std.specs.Cmp.Lexicographic.{slice_cmp}
use Rattle.std.specs.Ordering.{match_ordering}
use Rattle.std.proofs.Math.Nat.{le-max_left, le-max_right}
use Rattle.serde_json.specs.Data as json
use Rattle.serde_json.specs.Find.{get, get_member, as_str}
use Rattle.fv_datum.specs.Forms.{map2, map3}
use Rattle.fv_datum.specs.Members.{has_only}
use Rattle.fv_declare_draft.specs.Places.{place, plain, list, optional, a_map, place_members, place_of, type_in, held_of, place_in, reference_of}
use Rattle.fv_declare_draft.specs.Cascades.{cascade_of}
use Rattle.fv_declare_draft.specs.Uses.{uses_of}

chosen : {X : Type 0} (o : Ordering) (f : json.Data → Option X) (found : Option X) (j : json.Data) (rest : Option json.Data) → found ≡ option_and_then f rest → match_ordering o found (f j) found ≡ option_and_then f (match_ordering o rest (Some j) rest)
chosen Less f found j rest same = same
chosen Equal f found j rest same = refl
chosen Greater f found j rest same = same

-- the place that the member of a name is, by that member
pub place_in-get : (name : List ℕ) (ms : json.Members) → place_in name ms ≡ option_and_then place_of (get_member name ms)
place_in-get name json.no_members = refl
place_in-get name (json.member k j ms) = chosen (slice_cmp nat_cmp name k) place_of (place_in name ms) j (get_member name ms) (place_in-get name ms)

-- what the member `type` says, by that member
pub type_in-get : (ms : json.Members) → type_in ms ≡ option_and_then held_of (get_member (codes "type") ms)
type_in-get json.no_members = refl
type_in-get (json.member k j ms) = chosen (slice_cmp nat_cmp (codes "type") k) held_of (type_in ms) j (get_member (codes "type") ms) (type_in-get ms)

-- a place, by its members
pub place_of_members : (j : json.Data) → place_of j ≡ (if has_only place_members j then map3 place (uses_of (codes "constraints") j) (cascade_of j) (option_and_then held_of (get (codes "type") j)) else None)
place_of_members json.null = refl
place_of_members (json.boolean b) = refl
place_of_members (json.number n) = refl
place_of_members (json.string s) = refl
place_of_members (json.array js) = refl
place_of_members (json.object ms) =
    ap (λ held. if has_only place_members (json.object ms) then map3 place (uses_of (codes "constraints") (json.object ms)) (cascade_of (json.object ms)) held else None)
    (type_in-get ms)

found_at : (o : Ordering) (e j : json.Data) (rest : Option json.Data) → match_ordering o rest (Some e) rest ≡ Some j → (rest ≡ Some j) ⊎ (e ≡ j)
found_at Less e j rest is = inl is
found_at Equal e j rest is = inr cc
found_at Greater e j rest is = inl is

deeper : (k : List ℕ) (ms : json.Members) (j : json.Data) → get_member k ms ≡ Some j → json.depth j ≤ json.members_depth ms
deeper k json.no_members j found = cc
deeper k (json.member l e ms) j found = elim (found_at (slice_cmp nat_cmp k l) e j (get_member k ms) found) [
  | inl more ↦
      let below : json.depth j ≤ json.members_depth ms = deeper k ms j more in
      let most : json.members_depth ms ≤ max (json.depth e) (json.members_depth ms) = le-max_right (json.depth e) (json.members_depth ms) in
      omega arith
  | inr here ↦ rw (← here) (le-max_left (json.depth e) (json.members_depth ms))
]

-- what stands at a name is less deep
pub get_depth : (k : List ℕ) (j w : json.Data) → get k j ≡ Some w → json.depth w < json.depth j
get_depth k json.null w found = cc
get_depth k (json.boolean b) w found = cc
get_depth k (json.number n) w found = cc
get_depth k (json.string s) w found = cc
get_depth k (json.array js) w found = cc
get_depth k (json.object ms) w found = let below : json.depth w ≤ json.members_depth ms = deeper k ms w found in omega arith

-- what a place holds, by its members
pub held_of_members : (j : json.Data) → as_str j ≡ None → held_of j ≡ (if has_only (codes "ref" ∷ []) j then option_map plain (reference_of j) else if has_only (codes "list" ∷ []) j then option_map list (option_and_then place_of (get (codes "list") j)) else if has_only (codes "optional" ∷ []) j then option_map optional (option_and_then place_of (get (codes "optional") j)) else if has_only (codes "map" ∷ codes "keys" ∷ []) j then map2 a_map (uses_of (codes "keys") j) (option_and_then place_of (get (codes "map") j)) else None)
held_of_members json.null text = refl
held_of_members (json.boolean b) text = refl
held_of_members (json.number n) text = refl
held_of_members (json.string s) text = cc
held_of_members (json.array js) text = refl
held_of_members (json.object ms) text = rw (place_in-get (codes "list") ms, place_in-get (codes "optional") ms, place_in-get (codes "map") ms) refl
