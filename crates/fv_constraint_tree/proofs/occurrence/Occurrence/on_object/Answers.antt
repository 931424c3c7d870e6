use Rattle.std.proofs.Common.{◌≡◌, ◌∷◌, ◌∙◌, map, sym, ap}
use Rattle.fv_constraint_tree.specs.Preorder.{preorder}
use Rattle.fv_constraint_tree.specs.Views.{entry_view}
use Rattle.fv_constraint_tree.proofs.Entries.{on_object_by}
use Rattle.fv_constraint_tree.proofs.occurrence.Occurrence.on_object.Goals as goal

pub returns-else-asks_object : goal.returns-else-asks_object
returns-else-asks_object c =
    let is : preorder c.args.self.now ≡ map entry_view (c.self.inside.root ∷ c.self.inside.below.items) = ap preorder (sym c.self.view_is) ∙ c.self.invariant in
    rw (on_object_by _ (c.self.inside.root ∷ c.self.inside.below.items) is, sym c.asks_object.ensures ∙ c.if-asks_object.false, ← c.deref.ensures.value) c.any_asks_object.ensures
