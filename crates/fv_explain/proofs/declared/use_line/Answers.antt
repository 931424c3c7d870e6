use Rattle.std.proofs.Common.{◌≡◌, ◌∙◌, List, ℕ, Some, slice_get, string_bytes, ap, refl, subst}
use Rattle.fv_constraint_tree.specs.Nodes.{Node}
use Rattle.fv_constraint_tree.specs.Preorder.{preorder}
use Rattle.fv_constraint_tree.specs.Trees.{Tree}
use Rattle.fv_constraint_tree.specs.Views.{node_view}
use Rattle.fv_declare_schema.specs.PlacedView.{placed_view}
use Rattle.fv_explain.specs.Explained.{IsShown, group_names}
use Rattle.fv_explain.proofs.Nodes.{root_first, use_is}
use Rattle.fv_explain.proofs.declared.use_line.Goals as goal

pub returns : goal.returns
returns c =
    let u = placed_view c.args.placed.now in
    let n = node_view c.in-Some.node.now in
    let there : Some (n, c.in-Some.node.now.below) ≡ slice_get (preorder u.tree) 0 =
    c.in-Some.ensures ∙ ap (λ (t : Tree Node). slice_get (preorder t) 0) c.occurrence.ensures in
    use_is c.args.groups.now u n _ _ _ _ _ _ (root_first u.tree n c.in-Some.node.now.below there) c.number.ensures c.constraint.ensures refl
    (c.in_ok-groups.ensures ∙ ap (group_names c.args.groups.now) c.groups.ensures)
    (subst (λ (t : List ℕ). IsShown t (string_bytes c.in_ok-message.message)) c.message.ensures c.in_ok-message.ensures)
