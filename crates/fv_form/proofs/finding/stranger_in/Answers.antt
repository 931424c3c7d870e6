use Rattle.std.proofs.Common.{◌≡◌, ◌∷◌, ℕ, List, true, false, Option, Some, IfOk, map, option_map, find, sym, ap, subst, ◌∙◌, rules}
use Rattle.serde_json.specs.Data as json
use Rattle.serde_json.specs.View.{view as json_view, members_view}
use Rattle.fv_datum.specs.Members.{pairs}
use Rattle.fv_form.specs.FormViews.{entry_view}
use Rattle.fv_form.specs.MisfitViews.{misfit_view}
use Rattle.fv_form.specs.Misfits.{Misfit, member, under, here, stranger, is_strange, stranger_in}
use Rattle.fv_form.specs.declared.form_name.FormName.{FormName}
use Rattle.fv_form.proofs.Inside.{find_here, find_past}
use Rattle.fv_form.proofs.finding.stranger_in.Goals as goal

pub returns-then-not-is_known : goal.returns-then-not-is_known
returns-then-not-is_known c =
    let es = map entry_view c.args.entries.now in
    let test = λ (m : List ℕ × json.Data). is_strange es m.0 in
    let name = c.as_str-name.result.now in
    let j = json_view c.in-Some.field-0-1.now in
    let rest = pairs (members_view c.next.new.self) in
    let turn = ap (λ it. pairs (members_view it)) c.in-Some.ensures.steps ∙ ap (λ n. (n, j) ∷ rest) (sym c.as_str-name.ensures.value) in
    let strange : is_strange es name ≡ true = search rules in
    let found : find test (pairs (members_view c.args.members.now.entries)) ≡ Some (name, j) = sym c.loop-name.invariant ∙ ap (find test) turn ∙ find_here test (name, j) rest strange in
    let is : Some (under (member name) (misfit_view c.here.result)) ≡ stranger_in c.args.form es (members_view c.args.members.now.entries) =
    ap (λ x. Some (under (member name) x)) c.here.ensures ∙ sym (ap (option_map (λ m. under (member m.0) (here c.args.form stranger))) found) in
    subst (λ (w : Option (Misfit FormName)). IfOk c.under.result (λ o. option_map misfit_view o ≡ w)) is c.under.ensures

pub loop-name-preserved : goal.loop-name-preserved
loop-name-preserved c =
    let es = map entry_view c.args.entries.now in
    let test = λ (m : List ℕ × json.Data). is_strange es m.0 in
    let name = c.as_str-name.result.now in
    let j = json_view c.in-Some.field-0-1.now in
    let rest = pairs (members_view c.next.new.self) in
    let turn = ap (λ it. pairs (members_view it)) c.in-Some.ensures.steps ∙ ap (λ n. (n, j) ∷ rest) (sym c.as_str-name.ensures.value) in
    let known : is_strange es name ≡ false = search rules in
    sym (ap (find test) turn ∙ find_past test (name, j) rest known) ∙ c.loop-name.invariant
