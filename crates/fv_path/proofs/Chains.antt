-- Paths with one more node at their end.
use Rattle.std.proofs.Common.{◌≡◌, ◌-◌, Bool, true, false, ◌&&◌, List, [], ◌∷◌, ◌++◌, length, map, Option, Some, None, refl, sym, ap, ◌∙◌, arith, append-nil}
use Rattle.std.proofs.lemmas.List.{map-append}
use Rattle.std.specs.Option.{option_map, option_copied, option_to_list}
use Rattle.std.specs.Borrow.{Bor}
use Rattle.std.specs.List.{list_all, slice_get}
use Rattle.std.proofs.lemmas.Bool.{and_parts, and_from}
use Rattle.fv_path.specs.Nodes.{PathNode, is_node}
use Rattle.fv_path.specs.Paths.{may_stand, is_chain, is_path}

-- the last node, or what stands before all of them
abbrev pub last_of : Option PathNode → List PathNode → Option PathNode
last_of before [] = before
last_of before (n ∷ ns) = last_of (Some n) ns

and_assoc : (a b c : Bool) → (a && (b && c)) ≡ ((a && b) && c)
and_assoc true b c = refl
and_assoc false b c = refl

and_true : (b : Bool) → (b && true) ≡ b
and_true true = refl
and_true false = refl

pub is_chain_push : (before : Option PathNode) (ns : List PathNode) (n : PathNode) → is_chain before (ns ++ n ∷ []) ≡ (is_chain before ns && may_stand (last_of before ns) n)
is_chain_push before [] n = and_true (may_stand before n)
is_chain_push before (m ∷ ms) n = ap (λ b. may_stand before m && b) (is_chain_push (Some m) ms n) ∙ and_assoc (may_stand before m) (is_chain (Some m) ms) _

pub all_push : (ns : List PathNode) (n : PathNode) → list_all is_node (ns ++ n ∷ []) ≡ (list_all is_node ns && is_node n)
all_push [] n = and_true (is_node n)
all_push (m ∷ ms) n = ap (λ b. is_node m && b) (all_push ms n) ∙ and_assoc (is_node m) (list_all is_node ms) (is_node n)

-- a sound node makes a longer path just where it may stand behind the last
pub path_push : (ns : List PathNode) (n : PathNode) → is_path ns ≡ true → is_node n ≡ true → is_path (ns ++ n ∷ []) ≡ may_stand (last_of None ns) n
path_push ns n path sound =
    let p = and_parts (is_chain None ns) (list_all is_node ns) path in
    rw (is_chain_push None ns n, all_push ns n, p.0, p.1, sound) (and_true (may_stand (last_of None ns) n))

-- a path without its last node is a path
pub path_front : (ns : List PathNode) (n : PathNode) → is_path (ns ++ n ∷ []) ≡ true → is_path ns ≡ true
path_front ns n path =
    let p = and_parts (is_chain None (ns ++ n ∷ [])) (list_all is_node (ns ++ n ∷ [])) path in
    let chain = and_parts (is_chain None ns) (may_stand (last_of None ns) n) (sym (is_chain_push None ns n) ∙ p.0) in
    let all = and_parts (list_all is_node ns) (is_node n) (sym (all_push ns n) ∙ p.1) in
    and_from (is_chain None ns) (list_all is_node ns) chain.0 all.0

-- the last of a list that is seen node by node
last_seen : {X : Type 0} (view : X → PathNode) (before : Option PathNode) (x : X) (xs : List X)
    → last_of before (map view (x ∷ xs)) ≡ option_map view (slice_get (x ∷ xs) (length xs))
last_seen view before x [] = refl
last_seen view before x (y ∷ ys) = last_seen view (Some (view x)) y ys

map_copied : {X : Type 0} (view : X → PathNode) (o : Option (Bor X)) → option_map (λ b. view b.now) o ≡ option_map view (option_copied o)
map_copied view None = refl
map_copied view (Some b) = refl

-- what `last` of a slice gives is the last node
pub last_shown : {X : Type 0} (view : X → PathNode) (xs : List X) (o : Option (Bor X)) → option_copied o ≡ slice_get xs (length xs - 1)
    → option_map (λ b. view b.now) o ≡ last_of None (map view xs)
last_shown view [] o e = map_copied view o ∙ ap (option_map view) e
last_shown view (x ∷ xs) o e =
    let at : length (x ∷ xs) - 1 ≡ length xs = omega arith in
    map_copied view o ∙ ap (option_map view) (e ∙ ap (slice_get (x ∷ xs)) at) ∙ sym (last_seen view None x xs)

-- what `pop` leaves is a path
pub path_popped : {X : Type 0} (view : X → PathNode) (old new : List X) (o : Option X) → old ≡ new ++ option_to_list o → is_path (map view old) ≡ true → is_path (map view new) ≡ true
path_popped view old new None e path = ap (λ xs. is_path (map view xs)) (sym (e ∙ append-nil new)) ∙ path
path_popped view old new (Some x) e path = path_front (map view new) (view x) (sym (ap (λ xs. is_path (map view xs)) e ∙ ap is_path (map-append view new (x ∷ []))) ∙ path)
