use Rattle.std.proofs.Common.{ap, subst, ◌∙◌}
use Rattle.std.proofs.lemmas.Int.{to_z-of_z}
use mir.Syntax.{w64}
use Rattle.fv_declare_schema.specs.Declarations.{Declarations}
use Rattle.fv_bundle.specs.Types.{FieldsApart}
use Rattle.fv_store.specs.Stock.{stock_state}
use Rattle.fv_engine.proofs.Laws.{goes_turned, shows_what_was_put, changes_no_get, lists_some, may_change_places, fails_where_shut, leaves_nothing_to_list, fails_for_room_alone, shows_the_same, leaves_nothing_at_all, fits_where_added}
use Rattle.fv_engine.proofs.Lifts.{long_goes, short_goes}
use Rattle.fv_engine.proofs.engine.Engine.run.Goals as goal

pub returns-then-line-gt-LIMIT-clause-causes : goal.returns-then-line-gt-LIMIT-clause-causes
returns-then-line-gt-LIMIT-clause-causes g c =
    long_goes g.R.RuleSet.meaning (stock_state g.S.Store) c.args.line.now _ _ c.args.self.now _ c.refuse_long.ensures.same c.if-line-gt-LIMIT.true c.refuse_long.ensures.refused

pub returns-clause-causes : goal.returns-clause-causes
returns-clause-causes g c =
    short_goes g.R.RuleSet.meaning (stock_state g.S.Store) c.args.line.now _ _ c.args.self.now _ _ c.self.view_is c.if-line-gt-LIMIT.false (rw (to_z-of_z w64 c.args.now c.ranges.now) at c.reply_to_line.ensures)

pub returns-then-line-gt-LIMIT-clause-step : goal.returns-then-line-gt-LIMIT-clause-step
returns-then-line-gt-LIMIT-clause-step g c = goes_turned (stock_state g.S.Store) g.R.RuleSet.meaning c.args.line.now _ _ c.args.self.now _ (returns-then-line-gt-LIMIT-clause-causes g c)

pub returns-clause-step : goal.returns-clause-step
returns-clause-step g c = goes_turned (stock_state g.S.Store) g.R.RuleSet.meaning c.args.line.now _ _ c.args.self.now _ (returns-clause-causes g c)

pub returns-then-line-gt-LIMIT-clause-shows : goal.returns-then-line-gt-LIMIT-clause-shows
returns-then-line-gt-LIMIT-clause-shows g c = shows_what_was_put (stock_state g.S.Store) g.R.RuleSet.meaning c.args.line.now _ _ c.args.self.now _ (returns-then-line-gt-LIMIT-clause-causes g c)

pub returns-clause-shows : goal.returns-clause-shows
returns-clause-shows g c = shows_what_was_put (stock_state g.S.Store) g.R.RuleSet.meaning c.args.line.now _ _ c.args.self.now _ (returns-clause-causes g c)

pub returns-then-line-gt-LIMIT-clause-unchanged : goal.returns-then-line-gt-LIMIT-clause-unchanged
returns-then-line-gt-LIMIT-clause-unchanged g c = changes_no_get (stock_state g.S.Store) g.R.RuleSet.meaning c.args.line.now _ _ c.args.self.now _ (returns-then-line-gt-LIMIT-clause-causes g c)

pub returns-clause-unchanged : goal.returns-clause-unchanged
returns-clause-unchanged g c = changes_no_get (stock_state g.S.Store) g.R.RuleSet.meaning c.args.line.now _ _ c.args.self.now _ (returns-clause-causes g c)

pub returns-then-line-gt-LIMIT-clause-lists : goal.returns-then-line-gt-LIMIT-clause-lists
returns-then-line-gt-LIMIT-clause-lists g c = lists_some (stock_state g.S.Store) g.R.RuleSet.meaning c.args.line.now _ _ c.args.self.now _ (returns-then-line-gt-LIMIT-clause-causes g c)

pub returns-clause-lists : goal.returns-clause-lists
returns-clause-lists g c = lists_some (stock_state g.S.Store) g.R.RuleSet.meaning c.args.line.now _ _ c.args.self.now _ (returns-clause-causes g c)

pub returns-then-line-gt-LIMIT-clause-places : goal.returns-then-line-gt-LIMIT-clause-places
returns-then-line-gt-LIMIT-clause-places g c = may_change_places (stock_state g.S.Store) g.R.RuleSet.meaning c.args.line.now _ _ c.args.self.now _ (returns-then-line-gt-LIMIT-clause-causes g c)

pub returns-clause-places : goal.returns-clause-places
returns-clause-places g c = may_change_places (stock_state g.S.Store) g.R.RuleSet.meaning c.args.line.now _ _ c.args.self.now _ (returns-clause-causes g c)

pub returns-then-line-gt-LIMIT-clause-shut : goal.returns-then-line-gt-LIMIT-clause-shut
returns-then-line-gt-LIMIT-clause-shut g c = fails_where_shut (stock_state g.S.Store) g.R.RuleSet.meaning c.args.line.now _ _ c.args.self.now _ (returns-then-line-gt-LIMIT-clause-causes g c)

pub returns-clause-shut : goal.returns-clause-shut
returns-clause-shut g c = fails_where_shut (stock_state g.S.Store) g.R.RuleSet.meaning c.args.line.now _ _ c.args.self.now _ (returns-clause-causes g c)

pub returns-then-line-gt-LIMIT-clause-nothing : goal.returns-then-line-gt-LIMIT-clause-nothing
returns-then-line-gt-LIMIT-clause-nothing g c = leaves_nothing_to_list (stock_state g.S.Store) g.R.RuleSet.meaning c.args.line.now _ _ c.args.self.now _ (returns-then-line-gt-LIMIT-clause-causes g c)

pub returns-clause-nothing : goal.returns-clause-nothing
returns-clause-nothing g c = leaves_nothing_to_list (stock_state g.S.Store) g.R.RuleSet.meaning c.args.line.now _ _ c.args.self.now _ (returns-clause-causes g c)

pub returns-then-line-gt-LIMIT-clause-room : goal.returns-then-line-gt-LIMIT-clause-room
returns-then-line-gt-LIMIT-clause-room g c = fails_for_room_alone (stock_state g.S.Store) g.R.RuleSet.meaning c.args.line.now _ _ c.args.self.now _ (returns-then-line-gt-LIMIT-clause-causes g c)

pub returns-clause-room : goal.returns-clause-room
returns-clause-room g c = fails_for_room_alone (stock_state g.S.Store) g.R.RuleSet.meaning c.args.line.now _ _ c.args.self.now _ (returns-clause-causes g c)

pub returns-then-line-gt-LIMIT-clause-same : goal.returns-then-line-gt-LIMIT-clause-same
returns-then-line-gt-LIMIT-clause-same g c = shows_the_same (stock_state g.S.Store) g.R.RuleSet.meaning c.args.line.now _ _ c.args.self.now _ (returns-then-line-gt-LIMIT-clause-causes g c)

pub returns-clause-same : goal.returns-clause-same
returns-clause-same g c = shows_the_same (stock_state g.S.Store) g.R.RuleSet.meaning c.args.line.now _ _ c.args.self.now _ (returns-clause-causes g c)

pub returns-then-line-gt-LIMIT-clause-all : goal.returns-then-line-gt-LIMIT-clause-all
returns-then-line-gt-LIMIT-clause-all g c = leaves_nothing_at_all (stock_state g.S.Store) g.R.RuleSet.meaning c.args.line.now _ _ c.args.self.now _ (returns-then-line-gt-LIMIT-clause-causes g c)

pub returns-clause-all : goal.returns-clause-all
returns-clause-all g c = leaves_nothing_at_all (stock_state g.S.Store) g.R.RuleSet.meaning c.args.line.now _ _ c.args.self.now _ (returns-clause-causes g c)

pub returns-then-line-gt-LIMIT-clause-added : goal.returns-then-line-gt-LIMIT-clause-added
returns-then-line-gt-LIMIT-clause-added g c =
    let book = subst FieldsApart (c.types.ensures ∙ ap (λ (d : Declarations). d.types) c.schema.ensures) c.are_apart.ensures in
    let apart = subst FieldsApart (ap (λ e. e.machine.declared.types) c.self.view_is) book in
    fits_where_added (stock_state g.S.Store) g.R.RuleSet.meaning c.args.line.now _ _ c.args.self.now _ (returns-then-line-gt-LIMIT-clause-causes g c) apart

pub returns-clause-added : goal.returns-clause-added
returns-clause-added g c =
    let book = subst FieldsApart (c.types.ensures ∙ ap (λ (d : Declarations). d.types) c.schema.ensures) c.are_apart.ensures in
    let apart = subst FieldsApart (ap (λ e. e.machine.declared.types) c.self.view_is) book in
    fits_where_added (stock_state g.S.Store) g.R.RuleSet.meaning c.args.line.now _ _ c.args.self.now _ (returns-clause-causes g c) apart
