use Rattle.std.proofs.Common.{Ok, Err, sym, subst, ◌∙◌}
use Rattle.std.proofs.lemmas.Result.{IfOk-weaker, IfErr-weaker, err_from_is_err_and}
use Rattle.fv_datum.specs.Parsing.{json_of}
use Rattle.fv_datum.proofs.Outcomes.{ok_found}
use Rattle.serde_json.specs.View.{view as json_view}
use Rattle.fv_declare_judging.specs.Declares.{Declares}
use Rattle.fv_declare_judging.specs.Whereabouts.{IsPlaced}
use Rattle.fv_declare_judging.specs.declared.fault.DeclFault.{DeclFault}
use Rattle.fv_declare_judging.specs.declared.fault.DeclFault.TheVariants.{NotJson}
use Rattle.fv_declare_judging.proofs.InOrder.{declared_ordered}
use Rattle.fv_declare_judging.proofs.Turns.{unread, unread_placed, declared_by, placed_by}
use Rattle.fv_declare.proofs.text.read_placed.Goals as goal

pub returns-in_err-value-clause-refused : goal.returns-in_err-value-clause-refused
returns-in_err-value-clause-refused g c =
    let k = g.R.RuleSet.known c.args.rules.now in
    let p = err_from_is_err_and c.from_residual.result c.from_residual.ensures.1 in
    rw p.1 (λ other.
    subst (λ (e : DeclFault). Declares k c.args.bytes.now (Err e)) (sym p.2.0)
    (unread k c.args.bytes.now c.in_err-value.field-0.0 (c.in_err-value.ensures (λ is. other (p.2.0 ∙ is)))))

pub returns-in_err-value-clause-placed : goal.returns-in_err-value-clause-placed
returns-in_err-value-clause-placed g c =
    let k = g.R.RuleSet.known c.args.rules.now in
    let f = c.in_err-value.field-0.0 in
    let p = err_from_is_err_and c.from_residual.result c.from_residual.ensures.1 in
    rw p.1 (λ other.
    subst (λ (e : DeclFault). IsPlaced k c.args.bytes.now e p.0.at) (sym p.2.0)
    (subst (IsPlaced k c.args.bytes.now f) (sym p.2.1) (unread_placed k c.args.bytes.now f (c.in_err-value.ensures (λ is. other (p.2.0 ∙ is))))))

pub returns-clause-refused : goal.returns-clause-refused
returns-clause-refused g c =
    let k = g.R.RuleSet.known c.args.rules.now in
    let read = ok_found (json_of c.args.bytes.now) NotJson (json_view c.in_ok-value.value) c.in_ok-value.ensures in
    IfErr-weaker c.judge.result _ _ (λ p h other. declared_by k c.args.bytes.now (json_view c.in_ok-value.value) read (Err p.fault) (h other)) c.judge.ensures.refused

pub returns-clause-placed : goal.returns-clause-placed
returns-clause-placed g c =
    let k = g.R.RuleSet.known c.args.rules.now in
    let read = ok_found (json_of c.args.bytes.now) NotJson (json_view c.in_ok-value.value) c.in_ok-value.ensures in
    IfErr-weaker c.judge.result _ _ (λ p h other. placed_by k c.args.bytes.now (json_view c.in_ok-value.value) read p.fault p.at (h other)) c.judge.ensures.placed

pub returns-clause-ordered : goal.returns-clause-ordered
returns-clause-ordered g c =
    let k = g.R.RuleSet.known c.args.rules.now in
    let read = ok_found (json_of c.args.bytes.now) NotJson (json_view c.in_ok-value.value) c.in_ok-value.ensures in
    IfOk-weaker c.judge.result _ _ (λ s h. declared_ordered k c.args.bytes.now s (declared_by k c.args.bytes.now (json_view c.in_ok-value.value) read (Ok s) h)) c.judge.ensures.taken

pub returns-clause-taken : goal.returns-clause-taken
returns-clause-taken g c =
    let k = g.R.RuleSet.known c.args.rules.now in
    let read = ok_found (json_of c.args.bytes.now) NotJson (json_view c.in_ok-value.value) c.in_ok-value.ensures in
    IfOk-weaker c.judge.result _ _ (λ s. declared_by k c.args.bytes.now (json_view c.in_ok-value.value) read (Ok s)) c.judge.ensures.taken
