use Rattle.std.proofs.Common.{◌≡◌, ℕ, List, ◌++◌, map, true, sym, ap, subst, ◌∙◌}
use Rattle.std.proofs.lemmas.List.{take_all}
use Rattle.std.proofs.lemmas.List.Elements.{All-get_or}
use Rattle.fv_local.specs.FailureView as local
use Rattle.fv_local.specs.declared.failure.LocalFailure.{LocalFailure}
use Rattle.fv_bundle.specs.Views.{object_view}
use Rattle.fv_walk_traces.specs.OneField.{is_in_field}
use Rattle.fv_walk.specs.FailureView.{failure_view}
use Rattle.fv_walk.proofs.Tellings.{told_further}
use Rattle.fv_walk.specs.Ranks.{violation_in}
use Rattle.fv_walk.proofs.field_telling.add_failures.Goals as goal

pub failure_of-requires-clause-found : goal.failure_of-requires-clause-found
failure_of-requires-clause-found c =
    let is_found = λ (f : LocalFailure). local.IsFoundIn (object_view c.args.object.now) f.spot in
    subst is_found (sym c.failure-item.is) (All-get_or is_found c.args.found.now c.loop-failure.failure-index c.failure-item.result c.loop-failure-test.true c.requires.found)

pub failure_of-requires-clause-field : goal.failure_of-requires-clause-field
failure_of-requires-clause-field c =
    let in_field = λ (f : LocalFailure). (n : ℕ) × (is_in_field n (local.failure_view f) ≡ true) in
    subst in_field (sym c.failure-item.is) (All-get_or in_field c.args.found.now c.loop-failure.failure-index c.failure-item.result c.loop-failure-test.true c.requires.field)

pub loop-failure-preserved : goal.loop-failure-preserved
loop-failure-preserved c =
    told_further failure_view local.failure_view (violation_in (object_view c.args.object.now)) (map failure_view c.args.failures.now.items) c.loop-failure.failures.items
    c.push.new.self.items c.in_ok-failure_of.field-0 c.args.found.now c.loop-failure.failure-index c.failure-item.result c.loop-failure-test.true c.failure-item.is c.in_ok-push.ensures.items c.in_ok-failure_of.ensures
    c.loop-failure.invariant

pub returns : goal.returns
returns c =
    let told = violation_in (object_view c.args.object.now) in
    c.loop-failure.invariant
    ∙ ap (λ (fs : List LocalFailure). map failure_view c.args.failures.now.items ++ map told (map local.failure_view fs))
    (take_all c.loop-failure.failure-index c.args.found.now c.loop-failure-test.false)
