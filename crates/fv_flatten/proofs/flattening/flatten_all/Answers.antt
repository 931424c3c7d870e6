use Rattle.std.proofs.Common.{map, List, Err, sym, subst, ◌∙◌}
use Rattle.std.proofs.lemmas.Result.{IfOk-weaker, IfErr-weaker}
use Rattle.std.specs.List.{All, AllZip}
use Rattle.fv_constraint.specs.PlannedViews.{planned_entry}
use Rattle.fv_flatten.proofs.Deciding.{found_here, none_refused, none_misplaced, preorders, answers_fault, answers_place, answers_taken, answers_bad, places_bad, taken_fits}
use Rattle.fv_flatten.specs.Flattening.{FlattensAll}
use Rattle.fv_flatten.specs.Placed.{IsReadFrom, IsUnbuilt}
use Rattle.fv_flatten.specs.UseViews.{use_view}
use Rattle.fv_flatten.specs.Whereabouts.{IsAt}
use Rattle.fv_flatten.specs.declared.fault.FlattenFault.{FlattenFault}
use Rattle.fv_flatten.specs.declared.placed.PlacedTree.{PlacedTree}
use Rattle.fv_flatten.proofs.flattening.flatten_all.Goals as goal
use Rattle.fv_constraint_tree.specs.Preorder.{IsPreorder}

pub read_trees-requires-clause-planned : goal.read_trees-requires-clause-planned
read_trees-requires-clause-planned g c =
    subst (λ (ps : List PlacedTree). All (λ p. IsPreorder (map planned_entry p.spots.items)) ps) (sym c.deref-in-None.ensures.value)
    (preorders c.args.composition.now (map use_view c.args.uses.now) c.in_ok-trees.trees.items c.in_ok-trees.ensures)

pub read_trees-requires-clause-attributes : goal.read_trees-requires-clause-attributes
read_trees-requires-clause-attributes g c =
    let k = g.R.RuleSet.known c.args.rules.now in
    let ds = c.args.composition.now in
    let ps = c.in_ok-trees.trees.items in
    let none = found_here k c.first_fault.result _ ds _ ps c.first_fault.ensures c.definitions.ensures c.deref.ensures.value ∙ c.in-None.is in
    rw c.deref-in-None.ensures.value (none_refused k ds ps none)

pub read_trees-requires-clause-places : goal.read_trees-requires-clause-places
read_trees-requires-clause-places g c =
    let k = g.R.RuleSet.known c.args.rules.now in
    let ds = c.args.composition.now in
    let ps = c.in_ok-trees.trees.items in
    let none = found_here k c.first_fault.result _ ds _ ps c.first_fault.ensures c.definitions.ensures c.deref.ensures.value ∙ c.in-None.is in
    rw c.deref-in-None.ensures.value (k, none_misplaced k ds ps none)

pub returns-in-Some-clause-refused : goal.returns-in-Some-clause-refused
returns-in-Some-clause-refused g c = λ other.
    let k = g.R.RuleSet.known c.args.rules.now in
    let ds = c.args.composition.now in
    let ps = c.in_ok-trees.trees.items in
    let some = found_here k c.first_fault.result _ ds _ ps c.first_fault.ensures c.definitions.ensures c.deref.ensures.value ∙ c.in-Some.is in
    answers_fault k ds (map use_view c.args.uses.now) ps c.in_ok-trees.ensures c.in-Some.fault some

pub returns-in-Some-clause-placed : goal.returns-in-Some-clause-placed
returns-in-Some-clause-placed g c = λ other.
    let k = g.R.RuleSet.known c.args.rules.now in
    let ds = c.args.composition.now in
    let ps = c.in_ok-trees.trees.items in
    let some = found_here k c.first_fault.result _ ds _ ps c.first_fault.ensures c.definitions.ensures c.deref.ensures.value ∙ c.in-Some.is in
    answers_place k ds (map use_view c.args.uses.now) ps c.in_ok-trees.ensures c.in-Some.fault some

pub returns-clause-taken : goal.returns-clause-taken
returns-clause-taken g c =
    let k = g.R.RuleSet.known c.args.rules.now in
    let ds = c.args.composition.now in
    let us = map use_view c.args.uses.now in
    let ps = c.in_ok-trees.trees.items in
    let none = found_here k c.first_fault.result _ ds _ ps c.first_fault.ensures c.definitions.ensures c.deref.ensures.value ∙ c.in-None.is in
    IfOk-weaker c.read_trees.result _ _
    (λ v read. answers_taken k ds us ps c.in_ok-trees.ensures v.items none (subst (λ (qs : List PlacedTree). AllZip IsReadFrom qs v.items) c.deref-in-None.ensures.value read))
    c.read_trees.ensures.taken

pub returns-clause-refused : goal.returns-clause-refused
returns-clause-refused g c =
    let k = g.R.RuleSet.known c.args.rules.now in
    let ds = c.args.composition.now in
    let us = map use_view c.args.uses.now in
    let ps = c.in_ok-trees.trees.items in
    let none = found_here k c.first_fault.result _ ds _ ps c.first_fault.ensures c.definitions.ensures c.deref.ensures.value ∙ c.in-None.is in
    IfErr-weaker c.read_trees.result _ _
    (λ f found other.
    let bad = found other in
    let first = subst (λ (qs : List PlacedTree). IsUnbuilt qs f.at) c.deref-in-None.ensures.value bad.1 in
    subst (λ (e : FlattenFault). FlattensAll k ds us (Err e)) (sym bad.0) (answers_bad k ds us ps c.in_ok-trees.ensures f.at none first bad.2))
    c.read_trees.ensures.refused

pub returns-clause-placed : goal.returns-clause-placed
returns-clause-placed g c =
    let k = g.R.RuleSet.known c.args.rules.now in
    let ds = c.args.composition.now in
    let us = map use_view c.args.uses.now in
    let ps = c.in_ok-trees.trees.items in
    IfErr-weaker c.read_trees.result _ _
    (λ f found other.
    let bad = found other in
    let first = subst (λ (qs : List PlacedTree). IsUnbuilt qs f.at) c.deref-in-None.ensures.value bad.1 in
    λ ts are. subst (λ (e : FlattenFault). IsAt k ds us ts e f.at) (sym bad.0) (places_bad k ds us ps c.in_ok-trees.ensures f.at first bad.2 ts are))
    c.read_trees.ensures.refused

pub returns-clause-fits : goal.returns-clause-fits
returns-clause-fits g c =
    let k = g.R.RuleSet.known c.args.rules.now in
    let ds = c.args.composition.now in
    let us = map use_view c.args.uses.now in
    let ps = c.in_ok-trees.trees.items in
    let none = found_here k c.first_fault.result _ ds _ ps c.first_fault.ensures c.definitions.ensures c.deref.ensures.value ∙ c.in-None.is in
    IfOk-weaker c.read_trees.result _ _
    (λ v read. taken_fits k ds us ps c.in_ok-trees.ensures v.items none (subst (λ (qs : List PlacedTree). AllZip IsReadFrom qs v.items) c.deref-in-None.ensures.value read))
    c.read_trees.ensures.taken
