use Rattle.std.proofs.Common.{Ok, Err, sym, ap, subst, ◌∙◌}
use Rattle.std.proofs.lemmas.Result.{err_from_is_err_and}
use Rattle.fv_declare_draft.specs.DraftViews.{draft_view}
use Rattle.fv_declare_judging.specs.Judging.{IsAnswerTo, draft_faults}
use Rattle.fv_declare_judging.specs.Whereabouts.{IsAt}
use Rattle.fv_declare_judging.specs.declared.placed.PlacedFault.{PlacedFault}
use Rattle.fv_declare_judging.proofs.Turns.{composed}
use Rattle.fv_declare_judging.proofs.declarations.schema_of_draft.Goals as goal

pub returns-in_err-trees-clause-refused : goal.returns-in_err-trees-clause-refused
returns-in_err-trees-clause-refused g c =
    let k = g.R.RuleSet.known c.args.rules.now in
    let d = draft_view c.args.draft.now in
    let checked = c.in_ok-parts.ensures.taken in
    let f = c.in_err-trees.field-0.0.fault in
    let p = err_from_is_err_and c.from_residual-in_err-trees.result c.from_residual-in_err-trees.ensures.1 in
    rw p.1 (λ other.
    subst (λ (e : PlacedFault). IsAnswerTo k d draft_faults (Err e.fault)) (sym p.2)
    (composed k d checked.named checked.groups.2 (Err f) (c.in_err-trees.ensures.refused (λ is. other (ap (λ (e : PlacedFault). e.fault) p.2 ∙ is)))))

pub returns-clause-taken : goal.returns-clause-taken
returns-clause-taken g c =
    let k = g.R.RuleSet.known c.args.rules.now in
    let d = draft_view c.args.draft.now in
    let checked = c.in_ok-parts.ensures.taken in
    let s = c.in_ok-schema.schema in
    composed k d checked.named checked.groups.2 (Ok s) (c.in_ok-trees.ensures.taken.declared s c.in_ok-schema.ensures.taken)

pub returns-clause-fits : goal.returns-clause-fits
returns-clause-fits g c = c.in_ok-schema.ensures.fits (g.R.RuleSet.known c.args.rules.now) c.in_ok-trees.ensures.taken.fit

pub returns-in_err-trees-clause-placed : goal.returns-in_err-trees-clause-placed
returns-in_err-trees-clause-placed g c =
    let k = g.R.RuleSet.known c.args.rules.now in
    let d = draft_view c.args.draft.now in
    let p = err_from_is_err_and c.from_residual-in_err-trees.result c.from_residual-in_err-trees.ensures.1 in
    rw p.1 (λ other.
    subst (λ (e : PlacedFault). IsAt k d e.fault e.at) (sym p.2)
    (c.in_err-trees.ensures.placed (λ is. other (ap (λ (e : PlacedFault). e.fault) p.2 ∙ is))))
