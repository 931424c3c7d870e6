use Rattle.std.proofs.Common.{◌≡◌, ◌∷◌, ◌∙◌, map, sym, ap}
use Rattle.fv_constraint_tree.specs.Preorder.{preorder}
use Rattle.fv_constraint_tree.specs.Views.{entry_view}
use Rattle.fv_constraint_tree.proofs.Entries.{fits_by}
use Rattle.fv_constraint_tree.proofs.occurrence.Occurrence.fits.Goals as goal

pub returns-then-test_fits : goal.returns-then-test_fits
returns-then-test_fits g c =
    let is : preorder c.args.self.now ≡ map entry_view (c.self.inside.root ∷ c.self.inside.below.items) = ap preorder (sym c.self.view_is) ∙ c.self.invariant in
    rw (fits_by _ _ (c.self.inside.root ∷ c.self.inside.below.items) is, sym c.test_fits.ensures ∙ c.if-test_fits.true, ← c.deref.ensures.value) c.all_fit.ensures
