use Rattle.std.proofs.Common.{◌≡◌, ◌∙◌, ℕ, length, map, subst}
use Rattle.fv_graph.specs.Graph.{next_of}
use Rattle.fv_declare_schema.specs.Groups.{Groups, inherit_next, is_a_sequence}
use Rattle.fv_declare_schema.specs.Tables.{AreInheriting}
use Rattle.fv_declare_schema.proofs.Edges.{inheriting_same, ranking_same}
use Rattle.fv_declare_schema.proofs.groups.Groups.new.Goals as goal

pub invariant_of-result : goal.invariant_of-result
invariant_of-result c =
    let gs : Groups = c.args.groups in
    let inherited = c.args.inheritance.now in
    let members = c.args.expansion.now in
    let rows = c.in_ok-inheriting.inheriting.items in
    let leading : AreInheriting (next_of inherited) (length gs) rows =
    subst (λ (n : ℕ). AreInheriting (next_of inherited) n rows) c.requires.inheritance.0 c.in_ok-inheriting.ensures in
    let flags : c.deref.result.now ≡ map (λ g. is_a_sequence g.1) gs = c.deref.ensures.value ∙ c.in_ok-sequences.ensures in
    record {
      sound = c.requires.sound;
      small = c.requires.small;
      inheriting_are = inheriting_same (next_of inherited) (inherit_next gs) (length gs) rows c.requires.inheritance.1 leading;
      ranking_are = ranking_same gs c.deref.result.now (next_of members) (length members) c.in_ok-ranking.ranking.items c.requires.expansion.0 flags c.requires.expansion.1 c.in_ok-ranking.ensures;
    }
