use Rattle.std.proofs.Common.{map, Some}
use Rattle.std.proofs.lemmas.List.{map-append}
use Rattle.serde_json.specs.View.{view as json_view}
use Rattle.fv_bundle.specs.Types.{type_use_view}
use Rattle.fv_model_fault.specs.SearchViews.{sought, IsNext}
use Rattle.fv_model_fault.specs.Views.{inner_view}
use Rattle.fv_model_fault.proofs.Leads.{leads_on}
use Rattle.fv_model_fault.proofs.search.Search.descend.Goals as goal

pub inward-preserved : goal.inward-preserved
inward-preserved c =
    let l = c.inward in
    let found = rw c.in-Some.is at c.in_ok-step.ensures.found in
    let next : IsNext (sought c.args.self.now) (type_use_view l.at.now) (json_view l.inner.now) (c.in-Some.step, c.in-Some.held, c.in-Some.next) = found in
    record {
      led = rw (c.in_ok-push.ensures.items, map-append)
          (leads_on (sought c.args.self.now) (Some (type_use_view c.args.type_use.now)) (json_view c.args.value.now) (map inner_view l.steps.items) (type_use_view l.at.now) (json_view l.inner.now) (inner_view c.in-Some.step) (type_use_view c.in-Some.held.now) (json_view c.in-Some.next.now)
          l.invariant.led next.0);
      flawed = next.1;
    }
