use Rattle.std.proofs.Common.{◌≡◌, ◌+◌, ◌∙◌, List, ℕ, Some, slice_get, string_bytes, ap, refl, subst}
use Rattle.fv_constraint_tree.specs.Nodes.{Node}
use Rattle.fv_constraint_tree.specs.Preorder.{preorder}
use Rattle.fv_constraint_tree.specs.Trees.{Tree}
use Rattle.fv_constraint_tree.specs.Views.{node_view}
use Rattle.fv_declare_schema.specs.PlacedView.{placed_view}
use Rattle.fv_explain.specs.Explained.{IsShown}
use Rattle.fv_explain.proofs.Nodes.{node_there, part_is}
use Rattle.fv_explain.proofs.declared.part_of.Goals as goal

pub returns : goal.returns
returns c =
    let u = placed_view c.args.placed.now in
    let k = c.args.number in
    let n = node_view c.in-Some.node.now in
    let there : Some (n, c.in-Some.node.now.below) ≡ slice_get (preorder u.tree) k =
    c.in-Some.ensures ∙ ap (λ (t : Tree Node). slice_get (preorder t) k) c.occurrence.ensures in
    part_is u k n _ _ _ _ _ _ (node_there u.tree k n c.in-Some.node.now.below there) (ap (λ (m : ℕ). m + k) c.number-used.ensures)
    c.constraint.ensures refl
    (subst (λ (t : List ℕ). IsShown t (string_bytes c.in_ok-message.message)) c.message.ensures c.in_ok-message.ensures)
