use Rattle.std.proofs.Common.{◌≡◌, ◌<◌, ℕ, List, map, length, Some, None, Option, sym, ap, ap₂, subst, ◌∙◌}
use Rattle.fv_bundle.specs.Bundles.{Thing, Things}
use Rattle.fv_bundle.specs.Views.{bundle_view}
use Rattle.fv_local.specs.Graphs.{links_of}
use Rattle.fv_local.specs.Requests.{object_number}
use Rattle.fv_local.specs.Ways.{object_number_in}
use Rattle.fv_local.proofs.Objects.{rooted, root_number}
use Rattle.fv_local.proofs.graph.ObjectGraph.new.Goals as goal

pub unreachable-requires : goal.unreachable-requires
unreachable-requires c =
    let b = bundle_view c.args.bundle.now in
    let root = rooted c.args.schema.now.types b c.requires in
    let number = root_number b root.0 root.1 in
    let none : object_number_in b.objects b.root ≡ None = ap₂ object_number_in (sym c.objects-objects.ensures) (sym c.root.ensures) ∙ sym c.number_in.ensures ∙ c.in_default.is in
    let clash : Some (object_number b b.root) ≡ None = sym number.0 ∙ none in
    cc (clash)

pub returns-clause-graph : goal.returns-clause-graph
returns-clause-graph c =
    let b = bundle_view c.args.bundle.now in
    let root = rooted c.args.schema.now.types b c.requires in
    let number = root_number b root.0 root.1 in
    let some : object_number_in b.objects b.root ≡ Some c.in-Some.root = ap₂ object_number_in (sym c.objects-objects.ensures) (sym c.root.ensures) ∙ sym c.number_in.ensures ∙ c.in-Some.is in
    let same : c.in-Some.root ≡ object_number b b.root = cc (sym number.0 ∙ some) in
    record {
      ways = c.in_ok-ways.ensures ∙ ap (λ (os : Things). map (λ (o : List ℕ × Thing). links_of c.args.schema.now os o.1) os) c.objects-objects.ensures;
      root = same;
      rooted = subst (λ (n : ℕ). n < length b.objects) (sym same) number.1;
    }
