use Rattle.std.proofs.Common.{◌≡◌, Option, Some, None, Err}
use Rattle.std.specs.Option.{MatchOption}
use Rattle.std.proofs.lemmas.Result.{IfOk-weaker, IfErr-weaker}
use Rattle.fv_constraint.specs.Composed.{ComposesItself}
use Rattle.fv_declare_definition.specs.Definitions.{Definitions}
use Rattle.fv_declare_draft.specs.DraftViews.{draft_view}
use Rattle.fv_declare_judging.proofs.Found.{composed_known}
use Rattle.fv_declare_judging.proofs.Turns.{cyclic, acyclic, acyclic_read}
use Rattle.fv_declare_judging.proofs.judging.composed.Goals as goal

pub new-requires : goal.new-requires
new-requires g c = composed_known (draft_view c.args.draft.now) c.requires.named

-- what is told of what is there
there : {X : Type 0} (P Q : Type 0) (R : X → Type 0) (o : Option X) (x : X) → o ≡ Some x → MatchOption o P (λ y. R y × Q) → Q
there P Q R None x is h = cc
there P Q R (Some y) x is h = h.1

-- what is told where nothing is there
missing : {X : Type 0} (P : Type 0) (R : X → Type 0) (o : Option X) → o ≡ None → MatchOption o P R → P
missing P R None is h = h
missing P R (Some x) is h = cc

pub returns-in_default-clause-refused : goal.returns-in_default-clause-refused
returns-in_default-clause-refused g c =
    let d = draft_view c.args.draft.now in
    λ other. cyclic (g.R.RuleSet.known c.args.rules.now) d (missing _ _ c.in_ok-composition.field-0 c.in_default.is c.in_ok-composition.ensures)

pub returns-clause-taken : goal.returns-clause-taken
returns-clause-taken g c =
    let d = draft_view c.args.draft.now in
    let ds = d.definitions in
    let no_cycle : ComposesItself ds → ⊥ = there (ComposesItself ds) (ComposesItself ds → ⊥) (λ (x : Definitions). x ≡ ds) c.in_ok-composition.field-0 _ c.in-Some.is c.in_ok-composition.ensures in
    IfOk-weaker c.flattened.result _ _ (λ v. acyclic_read (g.R.RuleSet.known c.args.rules.now) d no_cycle v.items) c.flattened.ensures.taken

pub returns-clause-refused : goal.returns-clause-refused
returns-clause-refused g c =
    let d = draft_view c.args.draft.now in
    let ds = d.definitions in
    let no_cycle : ComposesItself ds → ⊥ = there (ComposesItself ds) (ComposesItself ds → ⊥) (λ (x : Definitions). x ≡ ds) c.in_ok-composition.field-0 _ c.in-Some.is c.in_ok-composition.ensures in
    IfErr-weaker c.flattened.result _ _ (λ p h other. acyclic (g.R.RuleSet.known c.args.rules.now) d no_cycle (Err p.fault) (h other)) c.flattened.ensures.refused
