use Rattle.std.proofs.Common.{◌≡◌, ◌<◌, ◌∙◌, List, Vec, false, get_or, length, ap, subst, arith}
use Rattle.std.specs.declared.alloc.Global.{Global}
use Rattle.fv_declare_schema.specs.Groups.{Groups, is_sequence, ranks}
use Rattle.fv_declare_schema.specs.Tables.{indices}
use Rattle.fv_declare_schema.specs.declared.declared.GroupId.{GroupId}
use Rattle.fv_declare_schema.proofs.Plain.{each_plain}
use Rattle.fv_declare_schema.proofs.groups.Groups.ranks.Goals as goal

pub returns-clause-within : goal.returns-clause-within
returns-clause-within c = λ k d small.
    (let gs : Groups = c.self.inside.groups in
    let g = c.args.group.index in
    let groups = c.deref.result.now in
    let less : g < length gs = omega (arith, c.requires, ap length c.self.view_is) in
    let is : indices groups ≡ ranks gs g =
    ap (λ (l : List GroupId). indices l) c.deref.ensures.value ∙ ap (λ (v : Vec GroupId Global). indices v.items) c.index.ensures ∙ c.self.invariant.ranking_are.1 g c.index.result.now less in
    subst (λ (es : Groups). (get_or groups k d).index < length es) c.self.view_is (each_plain gs g groups less is k d small).0)

pub returns-clause-plain : goal.returns-clause-plain
returns-clause-plain c = λ k d small.
    (let gs : Groups = c.self.inside.groups in
    let g = c.args.group.index in
    let groups = c.deref.result.now in
    let less : g < length gs = omega (arith, c.requires, ap length c.self.view_is) in
    let is : indices groups ≡ ranks gs g =
    ap (λ (l : List GroupId). indices l) c.deref.ensures.value ∙ ap (λ (v : Vec GroupId Global). indices v.items) c.index.ensures ∙ c.self.invariant.ranking_are.1 g c.index.result.now less in
    subst (λ (es : Groups). is_sequence es (get_or groups k d).index ≡ false) c.self.view_is (each_plain gs g groups less is k d small).1)
