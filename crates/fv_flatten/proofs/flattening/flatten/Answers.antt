use Rattle.std.proofs.Common.{◌≡◌, true, false, map, Err, arith, sym, ap, subst, ◌∙◌}
use Rattle.std.proofs.lemmas.Result.{err_from_is_err_and}
use Rattle.fv_constraint.specs.Refusals.{is_empty_in}
use Rattle.fv_constraint_tree.specs.Nodes.{Node}
use Rattle.fv_constraint_tree.specs.TargetFits.{tree_fits}
use Rattle.fv_constraint_tree.specs.Trees.{Tree}
use Rattle.fv_declare_definition.specs.DefinitionViews.{definition_entry}
use Rattle.fv_flatten.specs.Flattening.{Use, Flattens}
use Rattle.fv_flatten.specs.UseViews.{use_view}
use Rattle.fv_flatten.specs.declared.fault.FlattenFault.{FlattenFault}
use Rattle.fv_flatten.proofs.Deciding.{answers_empty, answers_large, answers_later, answers_one, only}
use Rattle.fv_flatten.proofs.flattening.flatten.Goals as goal

pub returns-then-is_some-clause-refused : goal.returns-then-is_some-clause-refused
returns-then-is_some-clause-refused g c = λ other.
    let ds = map definition_entry c.args.definitions.now.entries in
    let made = rw c.in-Some.is at c.in_ok-composition.ensures in
    let empty : is_empty_in ds ≡ true = grind (arith, c.empty_definition.ensures.found, c.is_some.ensures, c.if-is_some.true, c.if-is_some.ensures) in
    answers_empty (g.R.RuleSet.known c.args.rules.now) c.in-Some.composition ds (use_view c.args.used.now) c.size_of-size.result made.0 made.1 c.size_of-size.ensures.size c.size_of-size.ensures.tree empty

pub returns-then-size-gt-MOST_NODES-clause-refused : goal.returns-then-size-gt-MOST_NODES-clause-refused
returns-then-size-gt-MOST_NODES-clause-refused g c = λ other.
    let ds = map definition_entry c.args.definitions.now.entries in
    let made = rw c.in-Some.is at c.in_ok-composition.ensures in
    let full : is_empty_in ds ≡ false = grind (arith, c.empty_definition.ensures.found, c.is_some.ensures, c.if-is_some.false, c.if-is_some.ensures) in
    answers_large (g.R.RuleSet.known c.args.rules.now) c.in-Some.composition ds (use_view c.args.used.now) c.size_of-size.result made.0 made.1 c.size_of-size.ensures.size c.size_of-size.ensures.tree full (omega arith)

pub returns-in_err-occurrences-clause-refused : goal.returns-in_err-occurrences-clause-refused
returns-in_err-occurrences-clause-refused g c =
    let k = g.R.RuleSet.known c.args.rules.now in
    let ds = map definition_entry c.args.definitions.now.entries in
    let u = use_view c.args.used.now in
    let made = rw c.in-Some.is at c.in_ok-composition.ensures in
    let full : is_empty_in ds ≡ false = grind (arith, c.empty_definition.ensures.found, c.is_some.ensures, c.if-is_some.false, c.if-is_some.ensures) in
    let p = err_from_is_err_and c.from_residual-in_err-occurrences.result c.from_residual-in_err-occurrences.ensures.1 in
    rw p.1 (λ other.
    let found = c.in_err-occurrences.ensures.refused (λ is. other (p.2 ∙ is)) in
    subst (λ (f : FlattenFault). Flattens k ds u (Err f)) (sym p.2)
    (answers_later k c.in-Some.composition ds u c.size_of-size.result made.0 made.1 c.size_of-size.ensures.size c.size_of-size.ensures.tree c.in_err-occurrences.field-0.0.fault full (omega arith) found))

pub returns-clause-taken : goal.returns-clause-taken
returns-clause-taken g c =
    let k = g.R.RuleSet.known c.args.rules.now in
    let u = use_view c.args.used.now in
    let ds = map definition_entry c.args.definitions.now.entries in
    let made = rw c.in-Some.is at c.in_ok-composition.ensures in
    let full : is_empty_in ds ≡ false = grind (arith, c.empty_definition.ensures.found, c.is_some.ensures, c.if-is_some.false, c.if-is_some.ensures) in
    let items = c.in_ok-occurrences.occurrences.items in
    let one = c.in-Some-pop.occurrence in
    answers_one k c.in-Some.composition ds u c.size_of-size.result made.0 made.1 c.size_of-size.ensures.size c.size_of-size.ensures.tree items one full (omega arith) c.in_ok-occurrences.ensures.taken
    (only (λ (v : Use) (o : Tree Node). tree_fits k v.place o ≡ true) u items c.pop.new.self.items one c.in_ok-occurrences.ensures.fits c.in-Some-pop.ensures.items)
