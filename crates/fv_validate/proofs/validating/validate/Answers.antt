use Rattle.std.proofs.Common.{◌↔◌, List, map}
use Rattle.std.proofs.lemmas.Int.{to_z-of_z}
use mir.Syntax.{w64}
use Rattle.fv_graph.specs.Graph.{IsIn}
use Rattle.fv_declare_schema.specs.Tables.{indices}
use Rattle.fv_bundle.specs.Views.{bundle_view}
use Rattle.fv_local.specs.Requests.{request_of}
use Rattle.fv_walk_traces.specs.Violations.{Violation, IsViolation}
use Rattle.fv_validate.specs.ViolationView.{violation_view}
use Rattle.fv_validate.specs.Violations.{Reported, AreListed, IsListing}
use Rattle.fv_validate.proofs.Alike.{one_listing}
use Rattle.fv_validate.proofs.Reports.{same_listed}
use Rattle.fv_walk.specs.FailureView.{failure_view}
use Rattle.fv_validate.proofs.validating.validate.Goals as goal

pub returns-clause-listing : goal.returns-clause-listing
returns-clause-listing g c =
    let m = g.R.RuleSet.meaning in
    let ds = c.args.rulebook.now in
    let b = bundle_view c.args.bundle.now in
    let asked = indices c.args.asked.now in
    let fs : List Violation = map failure_view c.in_ok-walked.walked.failures.items in
    let vs : List Reported = map violation_view c.in_ok-listing_of.field-0.items in
    let exact : (v : Violation) → IsIn fs v ↔ IsViolation (request_of m ds c.args.now b asked) v = rw (to_z-of_z w64 c.args.now c.ranges.now) at c.in_ok-walked.ensures.violations in
    let list : AreListed ds.occurrences ds.messages (IsIn fs) vs = rw (c.occurrences.ensures.uses, c.messages.ensures, c.schema-schema.ensures) at c.in_ok-listing_of.ensures in
    same_listed ds.occurrences ds.messages fs (IsViolation (request_of m ds c.args.now b asked)) vs exact list

pub returns-clause-alike : goal.returns-clause-alike
returns-clause-alike g c =
    let m = g.R.RuleSet.meaning in
    let ds = c.args.rulebook.now in
    let b = bundle_view c.args.bundle.now in
    let asked = indices c.args.asked.now in
    let fs : List Violation = map failure_view c.in_ok-walked.walked.failures.items in
    let vs : List Reported = map violation_view c.in_ok-listing_of.field-0.items in
    let exact : (v : Violation) → IsIn fs v ↔ IsViolation (request_of m ds c.args.now b asked) v = rw (to_z-of_z w64 c.args.now c.ranges.now) at c.in_ok-walked.ensures.violations in
    let list : AreListed ds.occurrences ds.messages (IsIn fs) vs = rw (c.occurrences.ensures.uses, c.messages.ensures, c.schema-schema.ensures) at c.in_ok-listing_of.ensures in
    let listed : IsListing m ds c.args.now b asked vs = same_listed ds.occurrences ds.messages fs (IsViolation (request_of m ds c.args.now b asked)) vs exact list in
    λ other is. one_listing ds.occurrences ds.messages (IsViolation (request_of m ds c.args.now b asked)) other vs is listed
