-- The texts of lists of nodes, and that a path has a text of its own.
use Rattle.std.proofs.Common.{◌≡◌, ℕ, true, List, [], ◌∷◌, ◌++◌, drop, Some, None, refl, sym, ap, ap₂, ◌∙◌, arith}
use Rattle.std.specs.List.{list_all}
use Rattle.std.proofs.lemmas.Bool.{and_parts, and_from, false≢true}
use Rattle.fv_path.specs.Nodes.{PathNode, field, index, key, list_element, map_key, map_value, is_node, is_field}
use Rattle.fv_path.specs.Paths.{is_chain, IsPath}
use Rattle.fv_path.specs.Texts.{node_text, nodes_text, path_text_of}
use Rattle.fv_path.specs.Reading.{stops, closes}
use Rattle.fv_path.proofs.Determined.{named, is_told, told_node, determined}

-- a node's text is never empty
pub node_some : (n : PathNode) (r : List ℕ) → node_text n ++ r ≡ [] → ⊥
node_some (field n) r e = cc
node_some (index i) r e = cc
node_some (key k) r e = cc
node_some list_element r e = cc
node_some map_key r e = cc
node_some map_value r e = cc

stops_nodes : (ns : List PathNode) → stops (nodes_text ns) ≡ true
stops_nodes [] = refl
stops_nodes (field n ∷ ns) = refl
stops_nodes (index i ∷ ns) = refl
stops_nodes (key k ∷ ns) = refl
stops_nodes (list_element ∷ ns) = refl
stops_nodes (map_key ∷ ns) = refl
stops_nodes (map_value ∷ ns) = refl

-- each node ends where further nodes begin
pub closes_nodes : (n : PathNode) (ns : List PathNode) → closes n (nodes_text ns) ≡ true
closes_nodes (field n) ns = stops_nodes ns
closes_nodes (index i) ns = refl
closes_nodes (key k) ns = refl
closes_nodes list_element ns = refl
closes_nodes map_key ns = refl
closes_nodes map_value ns = refl

-- the nodes of a text are told from it
pub nodes_same : (ns ms : List PathNode) → list_all is_told ns ≡ true → list_all is_told ms ≡ true → nodes_text ns ≡ nodes_text ms → ns ≡ ms
nodes_same [] [] one two e = refl
nodes_same [] (m ∷ ms) one two e = absurd (node_some m (nodes_text ms) (sym e))
nodes_same (n ∷ ns) [] one two e = absurd (node_some n (nodes_text ns) e)
nodes_same (n ∷ ns) (m ∷ ms) one two e =
    let left = and_parts (is_told n) (list_all is_told ns) one in
    let right = and_parts (is_told m) (list_all is_told ms) two in
    let same = determined n m (nodes_text ns) (nodes_text ms) left.0 right.0 (closes_nodes n ns) (closes_nodes m ms) e in
    ap₂ (λ x xs. x ∷ xs) same.0 (nodes_same ns ms left.1 right.1 same.1)

all_told : (ns : List PathNode) → list_all is_node ns ≡ true → list_all is_told ns ≡ true
all_told [] sound = refl
all_told (n ∷ ns) sound =
    let parts = and_parts (is_node n) (list_all is_node ns) sound in
    and_from (is_told n) (list_all is_told ns) (told_node n parts.0) (all_told ns parts.1)

-- what a path's first node and its others are
pub record Starts (n : PathNode) (ns : List PathNode) : Type 0 where
  pub first : is_field n ≡ true
  pub sound : is_node n ≡ true
  pub others : list_all is_node ns ≡ true

pub starts : (n : PathNode) (ns : List PathNode) → IsPath (n ∷ ns) → Starts n ns
starts n ns path =
    let parts = and_parts (is_chain None (n ∷ ns)) (list_all is_node (n ∷ ns)) path in
    let all = and_parts (is_node n) (list_all is_node ns) parts.1 in
    record { first = (and_parts (is_field n) (is_chain (Some n) ns) parts.0).0; sound = all.0; others = all.1 }

-- a field's text begins with its dot, and goes on
dotted_field : (n : PathNode) (r : List ℕ) → is_field n ≡ true → is_node n ≡ true → (b : ℕ) × (bs : List ℕ) × (node_text n ++ r ≡ 46 ∷ b ∷ bs)
dotted_field (field []) r e sound = absurd (omega (arith, (named [] sound).some))
dotted_field (field (b ∷ bs)) r e sound = (b, bs ++ r, refl)
dotted_field (index i) r e sound = absurd (false≢true e)
dotted_field (key k) r e sound = absurd (false≢true e)
dotted_field list_element r e sound = absurd (false≢true e)
dotted_field map_key r e sound = absurd (false≢true e)
dotted_field map_value r e sound = absurd (false≢true e)

-- the nodes' text of a path that has nodes is its text behind a dot
pub dotted : (n : PathNode) (ns : List PathNode) → IsPath (n ∷ ns) → nodes_text (n ∷ ns) ≡ 46 ∷ path_text_of (n ∷ ns)
dotted n ns path =
    let s = starts n ns path in
    let d = dotted_field n (nodes_text ns) s.first s.sound in
    rw d.2 refl

-- only the path without nodes has no text
pub text_some : (n : PathNode) (ns : List PathNode) → IsPath (n ∷ ns) → path_text_of (n ∷ ns) ≡ [] → ⊥
text_some n ns path e =
    let s = starts n ns path in
    let d = dotted_field n (nodes_text ns) s.first s.sound in
    let empty : d.0 ∷ d.1 ≡ [] = sym (ap (drop 1) d.2) ∙ e in
    cc

-- two paths with one text are equal
pub text_same : (ns ms : List PathNode) → IsPath ns → IsPath ms → path_text_of ns ≡ path_text_of ms → ns ≡ ms
text_same [] [] one two e = refl
text_same [] (m ∷ ms) one two e = absurd (text_some m ms two (sym e))
text_same (n ∷ ns) [] one two e = absurd (text_some n ns one e)
text_same (n ∷ ns) (m ∷ ms) one two e =
    let left = and_parts (is_chain None (n ∷ ns)) (list_all is_node (n ∷ ns)) one in
    let right = and_parts (is_chain None (m ∷ ms)) (list_all is_node (m ∷ ms)) two in
    nodes_same (n ∷ ns) (m ∷ ms) (all_told (n ∷ ns) left.1) (all_told (m ∷ ms) right.1) (dotted n ns one ∙ ap (λ l. 46 ∷ l) e ∙ sym (dotted m ms two))
