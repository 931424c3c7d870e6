use Rattle.std.proofs.Common.{◌≡◌, ◌∙◌, inr, true, is_some, refl, ap, arith}
use Rattle.fv_declare_schema.specs.Judged.{are_too_large}
use Rattle.fv_declare_schema.proofs.FaultPlaces.{limit_told}
use Rattle.fv_declare_schema.proofs.graph.GroupGraph.finish.Goals as goal

pub returns-then-is_some : goal.returns-then-is_some
returns-then-is_some c =
    let told : is_some c.self.inside.limit ≡ are_too_large c.self.inside.groups = ap is_some c.self.invariant.limit_is ∙ limit_told c.self.inside.groups in
    let large : are_too_large c.args.self ≡ true = grind (arith, told, c.self.view_is, c.is_some.ensures, c.if-is_some.true, c.if-is_some.ensures) in
    inr (refl, large)

pub new-requires-clause-small : goal.new-requires-clause-small
new-requires-clause-small c =
    let told : is_some c.self.inside.limit ≡ are_too_large c.self.inside.groups = ap is_some c.self.invariant.limit_is ∙ limit_told c.self.inside.groups in
    grind (arith, told, c.self.view_is, c.is_some.ensures, c.if-is_some.false, c.if-is_some.ensures)
