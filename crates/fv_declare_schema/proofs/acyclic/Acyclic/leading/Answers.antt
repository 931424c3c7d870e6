use Rattle.std.proofs.Common.{◌≡◌, ◌∙◌, ℕ, List, Bool, Vec, length, sym, ap, subst, arith, ◌<◌}
use Rattle.std.specs.declared.alloc.Global.{Global}
use Rattle.std.proofs.lemmas.Grind.{common_steps}
use Rattle.fv_graph.specs.Graph.{next_of}
use Rattle.fv_declare_schema.specs.Marked.{AreReaching, AreLeading}
use Rattle.fv_declare_schema.proofs.Reaching.{leading_one, rows_more}
use Rattle.fv_declare_schema.proofs.acyclic.Acyclic.leading.Goals as goal

pub loop-node-preserved : goal.loop-node-preserved
loop-node-preserved c =
    let next = next_of c.args.self.now in
    let count = length c.args.self.now in
    let row = c.in_ok-reaching.field-0 in
    let are : AreReaching next count c.in_ok-marked.marked.items row.items =
    subst (λ (l : List Bool). AreReaching next count l row.items) c.deref.ensures.value c.in_ok-reaching.ensures.flags in
    let lead : AreLeading next count row.items c.loop-node.node = leading_one next count c.in_ok-marked.marked.items row.items c.loop-node.node c.in_ok-marked.ensures.one are in
    record {
      each = grind (arith, common_steps);
      leading = rows_more (λ j (v : Vec Bool Global). AreLeading next count v.items j) c.loop-node.rows.items c.push.new.self.items c.loop-node.node row c.in_ok-push.ensures.items c.loop-node.invariant.each c.loop-node.invariant.leading lead;
    }

pub returns : goal.returns
returns c =
    let long : c.loop-node.node ≡ length c.args.self.now = omega (arith, ap length c.self.view_is) in
    (c.loop-node.invariant.each ∙ long, λ h d less. c.loop-node.invariant.leading h d (subst (λ (n : ℕ). h < n) (sym long) less))
