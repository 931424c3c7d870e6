use Rattle.std.proofs.Common.{◌↔◌, List, map, sym, subst}
use Rattle.fv_declare_schema.specs.PlacedView.{placed_view}
use Rattle.fv_graph.specs.Graph.{IsIn}
use Rattle.fv_walk_traces.specs.Violations.{Violation}
use Rattle.fv_validate.specs.Listing.{made_by, AreToldApart}
use Rattle.fv_validate.specs.ViolationView.{violation_view}
use Rattle.fv_validate.specs.Violations.{Reported}
use Rattle.fv_validate.proofs.Reports.{reports_apart, listed}
use Rattle.fv_walk.specs.FailureView.{failure_view}
use Rattle.fv_validate.proofs.validating.listing_of.Goals as goal

pub arrange-requires : goal.arrange-requires
arrange-requires c =
    subst AreToldApart (sym c.in_ok-violations.ensures.reports)
    (reports_apart (map placed_view c.args.occurrences.now) c.args.messages.now (map failure_view c.args.failures.items) c.requires.apart c.in_ok-violations.ensures.paths)

pub returns : goal.returns
returns c =
    let us = map placed_view c.args.occurrences.now in
    let ms = c.args.messages.now in
    let fs : List Violation = map failure_view c.args.failures.items in
    let vs : List Reported = map violation_view c.arrange.new.violations.items in
    let same : (r : Reported) → IsIn vs r ↔ IsIn (map (made_by us ms) fs) r = rw c.in_ok-violations.ensures.reports at c.arrange.ensures.same in
    listed us ms fs vs c.in_ok-violations.ensures.made same c.arrange.ensures.ascending
