use Rattle.std.proofs.Common.{◌≡◌, ◌<◌, inl, inr, length, true, refl, sym, subst, arith}
use Rattle.std.proofs.lemmas.Grind.{common_steps}
use Rattle.fv_declare_schema.specs.Declarations.{Declarations}
use Rattle.fv_graph.specs.Graph.{IsIn}
use Rattle.fv_declare_schema.specs.Groups.{Groups, Inherits}
use Rattle.fv_local.specs.Below.{below}
use Rattle.fv_local.specs.Reached.{ranks_of}
use Rattle.fv_local.specs.TableView.{lists_view}
use Rattle.fv_local.proofs.Below.{below_is}
use Rattle.fv_local.proofs.Reaching.{ranked_some}
use Rattle.fv_local.proofs.rulebook.Rulebook.ranks.Goals as goal

pub returns-then-not-inherits : goal.returns-then-not-inherits
returns-then-not-inherits g c =
    let ds = c.self.inside.schema in
    let group = c.args.group.index in
    let never : IsIn (below ds.groups group) 0 → ⊥ = λ h.
    let inherits : Inherits c.groups.result.now group 0 = subst (λ (gs : Groups). Inherits gs group 0) (sym c.groups.ensures) ((below_is ds.groups group 0).0 h) in
    let yes : c.inherits.result ≡ true = c.inherits.ensures.1 inherits in
    grind (arith, common_steps, c.if-not-inherits.true, yes) in
    rw (← c.self.view_is) (inr (refl, λ ranks has default. never default))

pub returns-in-Some : goal.returns-in-Some
returns-in-Some g c =
    let ds = c.self.inside.schema in
    let type = c.args.type_id.index in
    let group = c.args.group.index in
    let typed : type < length ds.types = subst (λ (d : Declarations). type < length d.types) (sym c.self.view_is) c.requires.typed in
    let r = ranked_some ds type (ranks_of ds type) _ (lists_view c.in-Some.ranks.now) c.in-Some.ensures (c.self.invariant.1.ranked type typed) in
    let yes : c.inherits.result ≡ true = grind (arith, common_steps, c.if-not-inherits.false) in
    let inherits : Inherits c.groups.result.now group 0 = c.inherits.ensures.0 yes in
    let default : IsIn (below ds.groups group) 0 = (below_is ds.groups group 0).1 (subst (λ (gs : Groups). Inherits gs group 0) c.groups.ensures inherits) in
    rw (← c.self.view_is) (inl (r.0, r.1, default, r.2))
