use Rattle.std.proofs.Common.{◌≡◌, IsTrue, is_some, map, Option, None, Some, refl, sym, ap, subst, ◌∙◌, arith}
use Rattle.std.proofs.lemmas.Result.{err_from_is_err_and}
use Rattle.fv_constraint.specs.Composed.{Planned}
use Rattle.fv_constraint.specs.PlannedViews.{planned_view, planned_entry}
use Rattle.fv_flatten.proofs.Spots.{none_at, zipped_next}
use Rattle.fv_flatten.proofs.Unbuilt.{past_tree, this_tree}
use Rattle.fv_constraint_tree.specs.TargetViews.{target_view}
use Rattle.fv_flatten.specs.Placed.{gets_refused, is_misplaced, IsReadFrom, IsUnbuilt}
use Rattle.fv_flatten.specs.Read.{IsReadTree}
use Rattle.fv_flatten.specs.Whereabouts.{IsUnbuiltAt}
use Rattle.fv_constraint.specs.declared.at.ConstraintAt.{ConstraintAt}
use Rattle.fv_constraint.specs.declared.at.ConstraintAt.TheVariants as at
use Rattle.fv_flatten.proofs.placed.read_trees.Goals as goal
use Rattle.fv_constraint_tree.specs.Preorder.{preorder, IsPreorder}
use Rattle.fv_constraint_tree.specs.Trees.{Tree}
use Rattle.fv_first.specs.First.{IsFirstIn}

pub read-requires-clause-planned : goal.read-requires-clause-planned
read-requires-clause-planned c =
    rw c.deref.ensures.value (subst (λ p. IsPreorder (map planned_entry p.spots.items)) (sym c.index-trees-number.is)
    (c.requires.planned c.loop-number.number c.index-trees-number.result (omega arith)))

pub read-requires-clause-attributes : goal.read-requires-clause-attributes
read-requires-clause-attributes c =
    rw c.deref.ensures.value (none_at gets_refused c.args.trees.now c.loop-number.number c.index-trees-number.result (omega arith) c.index-trees-number.is c.requires.attributes)

pub read-requires-clause-places : goal.read-requires-clause-places
read-requires-clause-places c =
    let k = c.requires.places.0 in
    rw c.deref.ensures.value (k, none_at (is_misplaced k) c.args.trees.now c.loop-number.number c.index-trees-number.result (omega arith) c.index-trees-number.is c.requires.places.1)

pub returns-in_err-read-clause-refused : goal.returns-in_err-read-clause-refused
returns-in_err-read-clause-refused c =
    let i = c.loop-number.number in
    let x = c.index-trees-number.result in
    let ps = c.args.trees.now in
    let p = err_from_is_err_and c.from_residual-in_err-read.result c.from_residual-in_err-read.ensures.1 in
    rw p.1 (λ other.
    let found = c.in_err-read.ensures.refused (λ is. other (ap (λ f. f.fault) p.2 ∙ is)) in
    let node = found.1.0 in
    let at_is = ap (λ f. f.at) p.2 ∙ found.1.1 in
    let one = subst (λ ss. IsFirstIn (IsUnbuiltAt (target_view x.place)) (map (λ s. planned_view s.value) ss) (Some node)) c.deref.ensures.value found.1.2 in
    let first = c.loop-number.invariant.built (Some (at.Node i node)) (this_tree ps i x (omega arith) c.index-trees-number.is (at.Node i node) (Some node, one, refl)) in
    (ap (λ f. f.fault) p.2 ∙ found.0, subst (λ (o : Option ConstraintAt). IsUnbuilt ps o) (sym at_is) first, subst (λ (o : Option ConstraintAt). IsTrue (is_some o)) (sym at_is) refl))

pub loop-number-preserved : goal.loop-number-preserved
loop-number-preserved c =
    let l = c.loop-number in
    let x = c.index-trees-number.result in
    let ps = c.args.trees.now in
    let o = c.in_ok-read.field-0 in
    let read = subst (λ ss. (t : Tree Planned) → preorder t ≡ map planned_entry ss → IsReadTree (target_view x.place) t o) c.deref.ensures.value c.in_ok-read.ensures.taken in
    let built = subst (λ ss. IsFirstIn (IsUnbuiltAt (target_view x.place)) (map (λ s. planned_view s.value) ss) None) c.deref.ensures.value c.in_ok-read.ensures.built in
    record {
      made = rw c.in_ok-push.ensures.items (zipped_next IsReadFrom ps l.number x l.occurrences.items o (omega arith) c.index-trees-number.is l.invariant.made read);
      built = λ found rest. l.invariant.built found (past_tree ps l.number x (omega arith) c.index-trees-number.is (None, built, refl) found rest);
    }
