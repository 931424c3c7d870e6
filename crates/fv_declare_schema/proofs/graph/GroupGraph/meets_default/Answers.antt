use Rattle.std.proofs.Common.{◌≡◌, ◌<◌, ◌↔◌, Bool, true, length, ap, subst, arith}
use Rattle.fv_declare_schema.specs.Groups.{Groups, MeetsDefault}
use Rattle.fv_declare_schema.specs.Marked.{flag_of}
use Rattle.fv_declare_schema.proofs.Reaching.{flag_at}
use Rattle.fv_declare_schema.proofs.graph.GroupGraph.meets_default.Goals as goal

pub returns : goal.returns
returns c =
    let gs : Groups = c.self.inside.groups in
    let g = c.args.group.index in
    let less : g < length gs = omega (arith, c.requires, ap length c.self.view_is) in
    let at : flag_of c.self.inside.meeting.items g ≡ c.index.result.now =
    flag_at c.self.inside.meeting.items g c.index.result.now (omega (arith, less, c.self.invariant.meeting_are.0)) c.index.ensures in
    subst (λ (es : Groups). (c.index.result.now ≡ true) ↔ MeetsDefault es g) c.self.view_is
    (subst (λ (b : Bool). (b ≡ true) ↔ MeetsDefault gs g) at (c.self.invariant.meeting_are.1 g less))
