use Rattle.std.proofs.Common.{◌↔◌, List, map}
use Rattle.std.proofs.lemmas.Int.{to_z-of_z}
use mir.Syntax.{w64}
use Rattle.fv_graph.specs.Graph.{IsIn}
use Rattle.fv_declare_schema.specs.Tables.{indices}
use Rattle.fv_bundle.specs.Views.{object_view}
use Rattle.fv_walk.specs.Properties.{IsViolationIn}
use Rattle.fv_walk_traces.specs.Violations.{Violation}
use Rattle.fv_validate.specs.ViolationView.{violation_view}
use Rattle.fv_validate.specs.Violations.{Reported, AreListed, IsListingOfField}
use Rattle.fv_validate.proofs.Alike.{one_listing}
use Rattle.fv_validate.proofs.Reports.{same_listed}
use Rattle.fv_walk.specs.FailureView.{failure_view}
use Rattle.fv_validate.proofs.fields.validate_property.Goals as goal

pub returns-clause-listing : goal.returns-clause-listing
returns-clause-listing g c = λ typed.
    let m = g.R.RuleSet.meaning in
    let ds = c.args.rulebook.now in
    let object = object_view c.args.object.now in
    let name = c.args.field.now in
    let asked = indices c.args.asked.now in
    let fs : List Violation = map failure_view c.in_ok-failures.failures.items in
    let vs : List Reported = map violation_view c.in_ok-listing_of.field-0.items in
    let exact : (v : Violation) → IsIn fs v ↔ IsViolationIn m ds c.args.now object name asked v = rw (to_z-of_z w64 c.args.now c.ranges.now) at (c.in_ok-failures.ensures.violations typed) in
    let list : AreListed ds.occurrences ds.messages (IsIn fs) vs = rw (c.occurrences.ensures.uses, c.messages.ensures, c.schema-schema.ensures) at c.in_ok-listing_of.ensures in
    same_listed ds.occurrences ds.messages fs (IsViolationIn m ds c.args.now object name asked) vs exact list

pub returns-clause-alike : goal.returns-clause-alike
returns-clause-alike g c = λ typed.
    let m = g.R.RuleSet.meaning in
    let ds = c.args.rulebook.now in
    let object = object_view c.args.object.now in
    let name = c.args.field.now in
    let asked = indices c.args.asked.now in
    let fs : List Violation = map failure_view c.in_ok-failures.failures.items in
    let vs : List Reported = map violation_view c.in_ok-listing_of.field-0.items in
    let exact : (v : Violation) → IsIn fs v ↔ IsViolationIn m ds c.args.now object name asked v = rw (to_z-of_z w64 c.args.now c.ranges.now) at (c.in_ok-failures.ensures.violations typed) in
    let list : AreListed ds.occurrences ds.messages (IsIn fs) vs = rw (c.occurrences.ensures.uses, c.messages.ensures, c.schema-schema.ensures) at c.in_ok-listing_of.ensures in
    let listed : IsListingOfField m ds c.args.now object name asked vs = same_listed ds.occurrences ds.messages fs (IsViolationIn m ds c.args.now object name asked) vs exact list in
    λ other is. one_listing ds.occurrences ds.messages (IsViolationIn m ds c.args.now object name asked) other vs is listed
