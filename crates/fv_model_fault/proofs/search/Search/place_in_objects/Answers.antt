use Rattle.std.proofs.Common.{◌∷◌, find, sym, ap, ◌∙◌}
use Rattle.serde_json.specs.View.{view as json_view, members_view}
use Rattle.fv_datum.specs.Members.{pairs}
use Rattle.fv_bundle.specs.TypesView.{types_view}
use Rattle.fv_model_fault.specs.Faults.{has_flawed}
use Rattle.fv_model_fault.specs.SearchViews.{sought}
use Rattle.fv_model_fault.proofs.Finds.{find_here}
use Rattle.fv_model_fault.proofs.search.Search.place_in_objects.Goals as goal

pub returns-in-Some-2-clause-placed : goal.returns-in-Some-2-clause-placed
returns-in-Some-2-clause-placed c =
    let l = c.loop-name in
    let test = has_flawed (sought c.args.self.now) (types_view c.args.types.now) in
    let name = c.as_str.result.now in
    let object = json_view c.in-Some.object.now in
    let left = pairs (members_view c.next.new.self) in
    let steps = ap (λ it. pairs (members_view it)) c.in-Some.ensures.steps ∙ ap (λ n. (n, object) ∷ left) (sym c.as_str.ensures.value) in
    let told = rw c.in-Some-2.is at c.in_ok-place.ensures.told in
    let placed = rw c.in-Some-2.is at c.in_ok-place.ensures.placed in (
      (name, object),
      find_here test (name, object) left (pairs (members_view l.name-iterator)) (find test (pairs (members_view c.args.objects.now.entries))) steps (sym told) l.invariant.first,
      placed,
    )
