use Rattle.std.proofs.Common.{◌<◌, ℤ, All, length, map, sym, subst}
use Rattle.std.proofs.lemmas.Int.{to_z-of_z}
use mir.Syntax.{w64}
use Rattle.fv_declare_schema.specs.Declarations.{Declarations}
use Rattle.fv_declare_schema.specs.Tables.{indices}
use Rattle.fv_declare_schema.specs.declared.declared.GroupId.{GroupId}
use Rattle.fv_bundle.specs.Bundles.{Bundled}
use Rattle.fv_bundle.specs.Views.{bundle_view}
use Rattle.fv_bundle.specs.WellTyped.{IsWellTyped}
use Rattle.fv_local.specs.Requests.{judging}
use Rattle.fv_walk.specs.FailureView.{failure_view}
use Rattle.fv_walk.proofs.Asked.{asked_are, asked_differ, asked_within}
use Rattle.fv_listing.specs.Listed.{AreViolations}
use Rattle.fv_listing.proofs.Exact.{asked_for}
use Rattle.fv_listing.proofs.listing.list_failures.Goals as goal

pub listed-requires-clause-sound : goal.listed-requires-clause-sound
listed-requires-clause-sound g c =
    let ds = c.schema-schema.result.now in
    let b = bundle_view c.args.bundle.now in
    let gs = c.deref.result.now in
    let asked = asked_are gs c.in_ok-asked.asked.items _ c.deref.ensures.value c.in_ok-asked.ensures in
    let typed = subst (λ (ds : Declarations). IsWellTyped ds.types b) (sym c.schema-schema.ensures) c.requires.typed in
    let within = subst (λ (ds : Declarations). All (λ (x : GroupId). x.index < length ds.groups) c.args.asked.now) (sym c.schema-schema.ensures) c.requires.asked in record {
      ordered = c.new.ensures.ordered;
      typed = subst (λ (x : Bundled). IsWellTyped ds.types x) (sym c.in_ok-graph.ensures.bundle) typed;
      graph = c.in_ok-graph.ensures.graph;
      differ = asked_differ (indices c.args.asked.now) (indices gs) asked;
      within = asked_within (length ds.groups) c.args.asked.now gs c.new.ensures.ordered.grouped.some within asked;
    }

pub returns : goal.returns
returns g c =
    let m = g.R.RuleSet.meaning in
    let old = c.schema-schema.result.now in
    let from = bundle_view c.in_ok-graph.graph.bundle.now in
    let gs = indices c.deref.result.now in
    let vs = map failure_view c.in_ok-failures.failures.items in
    let asked = asked_are c.deref.result.now c.in_ok-asked.asked.items _ c.deref.ensures.value c.in_ok-asked.ensures in
    let found = subst (λ (t : ℤ). AreViolations (judging m old t from gs) vs) (to_z-of_z w64 c.args.now c.ranges.now) c.in_ok-failures.ensures in
    asked_for m c.args.now old c.args.rulebook.now from (bundle_view c.args.bundle.now) gs (indices c.args.asked.now) vs c.schema-schema.ensures c.in_ok-graph.ensures.bundle asked found
