use Rattle.std.proofs.Common.{◌≡◌, ◌<◌, ◌∙◌, true, subst, sym, ap, arith, get_or, length}
use Rattle.std.specs.Option.{is_some}
use Rattle.std.proofs.lemmas.List.{get_or_read}
use Rattle.fv_constraint.specs.Composed.{Planned, IsTreeOf}
use Rattle.fv_declare_definition.specs.Definitions.{Definitions}
use Rattle.fv_constraint.specs.Meanings.{meant_by}
use Rattle.fv_constraint_tree.specs.Trees.{Tree}
use Rattle.fv_constraint.proofs.Unfolded.{node_within, kept_tree}
use Rattle.fv_constraint.proofs.composition.Composition.size_of.Goals as goal

pub index-requires : goal.index-requires
index-requires c =
    let within = node_within c.self.inside.numbers c.self.inside.edges.items c.self.inside.sizes.items c.self.invariant c.args.name.now in
    omega (arith, within, c.number_of.ensures)

pub returns-clause-size : goal.returns-clause-size
returns-clause-size c = λ own given t is.
    let ds : Definitions = c.self.inside.numbers in
    let sizes = c.self.inside.sizes.items in
    let within = node_within ds c.self.inside.edges.items sizes c.self.invariant c.args.name.now in
    let less : c.number_of.result < length sizes = omega (arith, within, c.number_of.ensures) in
    get_or_read sizes c.number_of.result c.index.result.now less c.index.ensures 0 ∙ ap (λ n. get_or sizes n 0) c.number_of.ensures
    ∙ c.self.invariant.sized c.args.name.now own given t (subst (λ (es : Definitions). IsTreeOf es c.args.name.now own given t) (sym c.self.view_is) is)

pub returns-clause-tree : goal.returns-clause-tree
returns-clause-tree c = λ own given.
    subst (λ (es : Definitions). is_some (meant_by es c.args.name.now) ≡ true → (t : Tree Planned) × IsTreeOf es c.args.name.now own given t) c.self.view_is
    (kept_tree c.self.inside.numbers c.self.inside.edges.items c.self.inside.sizes.items c.self.invariant c.args.name.now own given) c.requires
