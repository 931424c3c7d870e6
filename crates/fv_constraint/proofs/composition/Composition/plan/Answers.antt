use Rattle.std.proofs.Common.{◌≡◌, ◌∙◌, ℕ, List, map, length, Option, Some, option_map, Vec, subst, sym, ap, arith}
use Rattle.std.proofs.lemmas.Result.{IfOk-weaker}
use Rattle.std.specs.declared.alloc.Global.{Global}
use Rattle.fv_graph.specs.Graph.{next_of}
use Rattle.fv_graph.specs.Graph as graph
use Rattle.fv_graph.specs.Tree as unfolded
use Rattle.fv_graph.specs.declared.flatten.Spot.{Spot}
use Rattle.fv_datum.specs.Attributes.{Attributes}
use Rattle.fv_constraint.specs.Composed.{IsTreeOf}
use Rattle.fv_constraint.specs.Composed as spec
use Rattle.fv_declare_definition.specs.Definitions.{Definitions}
use Rattle.fv_constraint.specs.Meanings.{meant_by}
use Rattle.fv_declare_definition.specs.DefinitionViews.{definition_entry}
use Rattle.fv_constraint.specs.MeantView.{meant_view}
use Rattle.fv_constraint.specs.Numbered.{number_of}
use Rattle.fv_constraint.specs.PlannedViews.{planned_view, planned_entry}
use Rattle.fv_constraint_tree.specs.Preorder.{preorder}
use Rattle.fv_constraint_tree.specs.Trees.{Tree}
use Rattle.fv_constraint.specs.declared.planning.Planned.{Planned}
use Rattle.fv_constraint.proofs.Unfolded.{hands_of, no_cycle, kept_within, root_within, kept_plan}
use Rattle.fv_constraint.proofs.composition.Composition.plan.Goals as goal

pub preorder-requires-clause-within : goal.preorder-requires-clause-within
preorder-requires-clause-within c =
    rw c.deref.ensures.value (kept_within c.self.inside.numbers c.self.inside.edges.items c.self.inside.sizes.items c.self.invariant)

pub preorder-requires-clause-acyclic : goal.preorder-requires-clause-acyclic
preorder-requires-clause-acyclic c = λ cycle.
    no_cycle c.self.inside.numbers c.self.inside.edges.items c.self.inside.sizes.items c.self.invariant
    (subst (λ (es : _). graph.IsCyclic (next_of es)) c.deref.ensures.value cycle)

pub preorder-requires-clause-root : goal.preorder-requires-clause-root
preorder-requires-clause-root c =
    let within = root_within c.self.inside.numbers c.self.inside.edges.items c.self.inside.sizes.items c.self.invariant c.args.name.now in
    omega (arith, within, c.number_of.ensures, ap length c.deref.ensures.value)

pub returns : goal.returns
returns c =
    let ds : Definitions = c.self.inside.numbers in
    let kept : Definitions = map definition_entry c.definitions-definitions.result.now.entries in
    let same : kept ≡ ds = c.definitions-definitions.ensures in
    let own : Option (List ℕ) = option_map (λ o. o.now) c.args.own in
    let p : spec.Planned = record { constraint = c.args.name.now; meant = meant_view c.in-Some.meant; own = own; given = c.new.result } in
    let edges = c.self.inside.edges.items in
    let is : meant_by ds c.args.name.now ≡ Some p.meant = ap (λ (es : Definitions). meant_by es c.args.name.now) (sym same) ∙ sym c.meant_by.ensures ∙ ap (option_map meant_view) c.in-Some.is in
    let given_is : p.given ≡ c.args.given.now = c.new.ensures ∙ c.in_ok-copy_entries.ensures.same ∙ sym c.entries.ensures in
    IfOk-weaker c.preorder.result
    (λ (spots : Vec (Spot Planned) Global). map (unfolded.shown planned_view) spots.items ≡ unfolded.listed (unfolded.tree_of (hands_of kept) (next_of c.deref.result.now) (length c.deref.result.now) c.number_of.result p))
    (λ (spots : Vec (Spot Planned) Global). (t : Tree spec.Planned) × IsTreeOf c.args.self.now c.args.name.now own c.args.given.now t × (map planned_entry spots.items ≡ preorder t))
    (λ spots listed.
    let at : map (unfolded.shown planned_view) spots.items ≡ unfolded.listed (unfolded.tree_of (hands_of ds) (next_of edges) (length edges) (number_of ds c.args.name.now) p) =
    listed ∙ ap (λ es. unfolded.listed (unfolded.tree_of (hands_of kept) (next_of es) (length es) c.number_of.result p)) c.deref.ensures.value
    ∙ ap (λ n. unfolded.listed (unfolded.tree_of (hands_of kept) (next_of edges) (length edges) n p)) c.number_of.ensures
    ∙ ap (λ (es : Definitions). unfolded.listed (unfolded.tree_of (hands_of es) (next_of edges) (length edges) (number_of ds c.args.name.now) p)) same in
    let made = kept_plan ds edges c.self.inside.sizes.items c.self.invariant planned_view spots.items p is at in
    let tree : IsTreeOf ds c.args.name.now own c.args.given.now made.0 = subst (λ (given : Attributes). IsTreeOf ds c.args.name.now own given made.0) given_is made.1 in
    (made.0, subst (λ (es : Definitions). IsTreeOf es c.args.name.now own c.args.given.now made.0) c.self.view_is tree, made.2))
    c.preorder.ensures
