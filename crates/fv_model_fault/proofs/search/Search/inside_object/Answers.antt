use Rattle.std.proofs.Common.{◌≡◌, ◌∷◌, ℕ, List, Some, true, find, sym, ap, ◌∙◌, rules}
use Rattle.serde_json.specs.Data as json
use Rattle.serde_json.specs.View.{view as json_view, members_view}
use Rattle.fv_datum.specs.Members.{pairs}
use Rattle.fv_bundle.specs.Flaws.{members_in}
use Rattle.fv_bundle.specs.Types.{type_use_view}
use Rattle.fv_model_fault.specs.SearchViews.{sought}
use Rattle.fv_model_fault.proofs.Finds.{find_here}
use Rattle.fv_model_fault.proofs.search.Search.inside_object.Goals as goal

pub returns-then-branch-clause-found : goal.returns-then-branch-clause-found
returns-then-branch-clause-found c =
    let l = c.loop-name in
    let test = λ (m : List ℕ × json.Data). sought c.args.self.now (Some (type_use_view c.args.held.now)) m.1 in
    let all = members_in (json_view c.args.value.now) in
    let name = c.as_str.result.now in
    let member = json_view c.in-Some-2.member.now in
    let left = pairs (members_view c.next.new.self) in
    let steps = ap (λ it. pairs (members_view it)) c.in-Some-2.ensures.steps ∙ ap (λ n. (n, member) ∷ left) (sym c.as_str.ensures.value) in
    let flawed : sought c.args.self.now (Some (type_use_view c.args.held.now)) member ≡ true = search rules in
    let first : find test all ≡ Some (name, member) =
    find_here test (name, member) left (pairs (members_view l.name-iterator)) (find test all) steps flawed l.invariant.first in
    λ u e. ((e, first), flawed)
