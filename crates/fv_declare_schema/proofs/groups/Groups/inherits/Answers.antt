use Rattle.std.proofs.Common.{◌≡◌, ◌<◌, ◌↔◌, Bool, Vec, true, length, sym, ap, subst, arith}
use Rattle.std.specs.declared.alloc.Global.{Global}
use Rattle.fv_declare_schema.specs.Groups.{Groups, Inherits, inherit_next}
use Rattle.fv_declare_schema.specs.Marked.{flag_of, AreLeading}
use Rattle.fv_declare_schema.proofs.Reaching.{flag_at}
use Rattle.fv_declare_schema.proofs.groups.Groups.inherits.Goals as goal

pub returns : goal.returns
returns c =
    let gs : Groups = c.self.inside.groups in
    let g = c.args.group.index in
    let h = c.args.other.index in
    let row = c.index.result.now in
    let less : g < length gs = omega (arith, c.requires.group, ap length c.self.view_is) in
    let small : h < length gs = omega (arith, c.requires.other, ap length c.self.view_is) in
    let lead : AreLeading (inherit_next gs) (length gs) row.items h =
    subst (λ (v : Vec Bool Global). AreLeading (inherit_next gs) (length gs) v.items h) (sym c.index.ensures) (c.self.invariant.inheriting_are.1 h row small) in
    let at : flag_of row.items g ≡ c.index-2.result.now = flag_at row.items g c.index-2.result.now (omega (arith, less, lead.0)) c.index-2.ensures in
    subst (λ (es : Groups). (c.index-2.result.now ≡ true) ↔ Inherits es g h) c.self.view_is
    (subst (λ (b : Bool). (b ≡ true) ↔ Inherits gs g h) at (lead.1 g less))
