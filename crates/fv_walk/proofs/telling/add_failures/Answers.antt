use Rattle.std.proofs.Common.{List, ◌++◌, map, sym, ap, subst, ◌∙◌}
use Rattle.std.proofs.lemmas.List.{take_all}
use Rattle.std.proofs.lemmas.List.Elements.{All-get_or}
use Rattle.fv_local.specs.FailureView as local
use Rattle.fv_local.specs.declared.failure.LocalFailure.{LocalFailure}
use Rattle.fv_local.specs.Requests.{object_at}
use Rattle.fv_walk.specs.Courses.{bundle_in, visiting}
use Rattle.fv_walk.specs.FailureView.{failure_view}
use Rattle.fv_walk.specs.Stacks.{path_on}
use Rattle.fv_walk.specs.Walks.{told_at}
use Rattle.fv_walk.proofs.Tellings.{told_further}
use Rattle.fv_walk.proofs.telling.add_failures.Goals as goal

pub failure_of-requires-clause-found : goal.failure_of-requires-clause-found
failure_of-requires-clause-found c =
    let fails = λ (f : LocalFailure). local.IsFoundIn (object_at (bundle_in c.args.course.now) c.args.object) f.spot in
    subst fails (sym c.failure-item.is) (All-get_or fails c.args.found.now c.loop-failure.failure-index c.failure-item.result c.loop-failure-test.true c.requires.found)

pub loop-failure-preserved : goal.loop-failure-preserved
loop-failure-preserved c =
    let course = c.args.course.now in
    told_further failure_view local.failure_view (told_at (visiting course) (path_on (visiting course) c.args.stack.now) c.args.object) (map failure_view c.args.failures.now.items) c.loop-failure.failures.items
    c.push.new.self.items c.in_ok-failure_of.field-0 c.args.found.now c.loop-failure.failure-index c.failure-item.result c.loop-failure-test.true c.failure-item.is c.in_ok-push.ensures.items c.in_ok-failure_of.ensures
    c.loop-failure.invariant

pub returns : goal.returns
returns c =
    let course = c.args.course.now in
    let told = told_at (visiting course) (path_on (visiting course) c.args.stack.now) c.args.object in
    c.loop-failure.invariant
    ∙ ap (λ (fs : List LocalFailure). map failure_view c.args.failures.now.items ++ map told (map local.failure_view fs))
    (take_all c.loop-failure.failure-index c.args.found.now c.loop-failure-test.false)
