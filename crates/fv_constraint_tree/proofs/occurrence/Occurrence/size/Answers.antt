use Rattle.std.proofs.Common.{◌≡◌, ◌∷◌, ◌∙◌, map, sym, ap, arith}
use Rattle.fv_constraint_tree.specs.Preorder.{preorder}
use Rattle.fv_constraint_tree.specs.Views.{entry_view}
use Rattle.fv_constraint_tree.proofs.Entries.{size_by}
use Rattle.fv_constraint_tree.proofs.occurrence.Occurrence.size.Goals as goal

pub returns : goal.returns
returns c =
    let is : preorder c.args.self.now ≡ map entry_view (c.self.inside.root ∷ c.self.inside.below.items) = ap preorder (sym c.self.view_is) ∙ c.self.invariant in
    let long = size_by c.args.self.now (c.self.inside.root ∷ c.self.inside.below.items) is in
    omega (arith, long, c.self.inside.below.ok.0)
