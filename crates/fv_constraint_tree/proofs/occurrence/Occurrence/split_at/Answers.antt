use Rattle.std.proofs.Common.{◌∷◌, ◌∙◌, ap, sym, arith}
use Rattle.fv_constraint_tree.specs.Preorder.{preorder}
use Rattle.fv_constraint_tree.proofs.Entries.{size_by, behind_by}
use Rattle.fv_constraint_tree.proofs.occurrence.Occurrence.split_at.Goals as goal

pub index-requires : goal.index-requires
index-requires c =
    let long = size_by c.args.self.now (c.self.inside.root ∷ c.self.inside.below.items) (ap preorder (sym c.self.view_is) ∙ c.self.invariant) in
    omega (arith, long, c.self.inside.below.ok.0)

pub offset_bounds-deref-number : goal.offset_bounds-deref-number
offset_bounds-deref-number c =
    let long = size_by c.args.self.now (c.self.inside.root ∷ c.self.inside.below.items) (ap preorder (sym c.self.view_is) ∙ c.self.invariant) in
    omega (arith, long, c.self.inside.below.ok.0)

pub slice_bounds-result-count : goal.slice_bounds-result-count
slice_bounds-result-count c =
    let long = size_by c.args.self.now (c.self.inside.root ∷ c.self.inside.below.items) (ap preorder (sym c.self.view_is) ∙ c.self.invariant) in
    omega (arith, long, c.self.inside.below.ok.0)

pub slice_bounds-result-start : goal.slice_bounds-result-start
slice_bounds-result-start c =
    let long = size_by c.args.self.now (c.self.inside.root ∷ c.self.inside.below.items) (ap preorder (sym c.self.view_is) ∙ c.self.invariant) in
    omega (arith, long, c.self.inside.below.ok.0)

pub returns-in-Some : goal.returns-in-Some
returns-in-Some c =
    let long = size_by c.args.self.now (c.self.inside.root ∷ c.self.inside.below.items) (ap preorder (sym c.self.view_is) ∙ c.self.invariant) in
    rw (c.deref-in-Some.ensures.value) (behind_by c.args.self.now c.self.inside.root c.self.inside.below.items c.args.number c.in-Some.before c.index.result.now (ap preorder (sym c.self.view_is) ∙ c.self.invariant) (omega arith) (omega (arith, long, c.self.inside.below.ok.0)) c.index.ensures)
