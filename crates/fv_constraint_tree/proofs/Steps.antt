-- The walk over the nodes of the code.
use Rattle.std.proofs.Common.{◌≡◌, ℕ, ◌+◌, ◌≤◌, ◌∙◌, List, [], ◌∷◌, ◌++◌, Bool, ◌||◌, ◌&&◌, cond, length, map, take, drop, sym, ap, refl, arith}
use Rattle.std.proofs.lemmas.List.{length-map}
use Rattle.std.specs.List.{list_any}
use Rattle.fv_constraint_tree.specs.Nodes as spec
use Rattle.fv_constraint_tree.specs.Preorder.{preorder}
use Rattle.fv_constraint_tree.specs.Trees.{Tree, size}
use Rattle.fv_constraint_tree.specs.Views.{node_view, entry_view}
use Rattle.fv_constraint_tree.specs.declared.node.Node.{Node}
use Rattle.fv_constraint_tree.proofs.Entries.{any_front}
use Rattle.fv_constraint_tree.proofs.Walking.{Walk, step, room}

-- what stands below a node stands behind it, and in the tree
pub node_room : (refuses : spec.Node → Bool) (whole : Tree spec.Node) (number : ℕ) (out : List ℕ) (x : Node) (behind : List Node)
    → Walk (λ n. n.single) refuses whole number out → map entry_view (x ∷ behind) ≡ drop number (preorder whole) → (x.below ≤ length behind) × (number + (x.below + 1) ≤ size whole)
node_room refuses whole number out x behind w is =
    let r = room (λ n. n.single) refuses whole number out (node_view x) x.below (map entry_view behind) w (sym is) in
    let long : length (map entry_view behind) ≡ length behind = rw length-map refl in
    (omega (arith, r.0, long), r.1)

-- one node further
pub node_step : (refuses : spec.Node → Bool) (whole : Tree spec.Node) (number next : ℕ) (out new : List ℕ) (x : Node) (behind : List Node) (stands : Bool)
    → Walk (λ n. n.single) refuses whole number out → map entry_view (x ∷ behind) ≡ drop number (preorder whole)
    → stands ≡ (refuses (node_view x) || (x.single && list_any (λ n. refuses (node_view n)) (take x.below behind)))
    → new ≡ out ++ cond stands (number ∷ []) [] → next ≡ number + cond x.single (x.below + 1) 1 → Walk (λ n. n.single) refuses whole next new
node_step refuses whole number next out new x behind stands w is stands_is new_is next_is =
    let seen = stands_is ∙ ap (λ b. refuses (node_view x) || (x.single && b)) (sym (any_front refuses x.below behind)) in
    step (λ n. n.single) refuses whole number next out new (node_view x) x.below (map entry_view behind) stands w (sym is) seen new_is next_is
