use Rattle.std.proofs.Common.{◌≡◌, Some, Ok, Err, inr, option_map, sym, ap, ◌∙◌}
use Rattle.std.proofs.lemmas.Result.{IfOk-weaker, IfErr-weaker}
use Rattle.serde_json.specs.View.{view as json_view}
use Rattle.fv_declare_draft.specs.Drafts.{draft_of}
use Rattle.fv_declare_draft.specs.DraftViews.{draft_view}
use Rattle.fv_declare_judging.proofs.Led.{draft_led}
use Rattle.fv_declare_judging.proofs.Turns.{shapeless, shaped}
use Rattle.fv_declare_judging.proofs.declarations.judge.Goals as goal

pub schema_of_draft-requires : goal.schema_of_draft-requires
schema_of_draft-requires g c =
    draft_led (json_view c.args.value.now) (draft_view c.in-Some.draft) (sym c.in_ok-draft_of.ensures ∙ ap (option_map draft_view) c.in-Some.is)

pub returns-in-None-clause-refused : goal.returns-in-None-clause-refused
returns-in-None-clause-refused g c =
    let k = g.R.RuleSet.known c.args.rules.now in
    λ other. shapeless k (json_view c.args.value.now) (sym c.in_ok-draft_of.ensures ∙ ap (option_map draft_view) c.in-None.is)

pub returns-in-Some-clause-taken : goal.returns-in-Some-clause-taken
returns-in-Some-clause-taken g c =
    let k = g.R.RuleSet.known c.args.rules.now in
    let j = json_view c.args.value.now in
    let d = draft_view c.in-Some.draft in
    let there : draft_of j ≡ Some d = sym c.in_ok-draft_of.ensures ∙ ap (option_map draft_view) c.in-Some.is in
    IfOk-weaker c.schema_of_draft.result _ _ (λ s. shaped k j d there (Ok s)) c.schema_of_draft.ensures.taken

pub returns-in-Some-clause-refused : goal.returns-in-Some-clause-refused
returns-in-Some-clause-refused g c =
    let k = g.R.RuleSet.known c.args.rules.now in
    let j = json_view c.args.value.now in
    let d = draft_view c.in-Some.draft in
    let there : draft_of j ≡ Some d = sym c.in_ok-draft_of.ensures ∙ ap (option_map draft_view) c.in-Some.is in
    IfErr-weaker c.schema_of_draft.result _ _ (λ p h other. shaped k j d there (Err p.fault) (h other)) c.schema_of_draft.ensures.refused

pub returns-in-Some-clause-placed : goal.returns-in-Some-clause-placed
returns-in-Some-clause-placed g c =
    let j = json_view c.args.value.now in
    let d = draft_view c.in-Some.draft in
    let there : draft_of j ≡ Some d = sym c.in_ok-draft_of.ensures ∙ ap (option_map draft_view) c.in-Some.is in
    IfErr-weaker c.schema_of_draft.result _ _ (λ p h other. inr (d, there, h other)) c.schema_of_draft.ensures.placed
