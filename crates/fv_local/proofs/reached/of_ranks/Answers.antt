use Rattle.std.proofs.Common.{List, ℕ, [], ◌∷◌, ◌++◌, take, get_or, sym, subst, arith}
use Rattle.fv_declare_schema.proofs.Ranks.{indices_more}
use Rattle.fv_declare_schema.specs.Tables.{indices}
use Rattle.fv_declare_schema.specs.declared.declared.GroupId.{GroupId}
use Rattle.fv_local.specs.Below.{below}
use Rattle.fv_local.specs.Reached.{AreReached, AreOfRanks}
use Rattle.fv_local.specs.TableView.{lists_view}
use Rattle.fv_local.proofs.Rows.{one_shown, one_zipped}
use Rattle.fv_local.proofs.reached.of_ranks.Goals as goal

pub loop-rank-preserved : goal.loop-rank-preserved
loop-rank-preserved c =
    let ds = c.args.schema.now in
    let type = c.args.uses.type_id.index in
    let k = c.loop-rank.rank-index in
    let ranks = c.args.ranks.now in
    let rank : GroupId = get_or ranks k record { index = 0 } in
    let lists = c.loop-rank.lists.items in
    let made = c.in_ok-reached.field-0 in
    let zipped = one_zipped (λ r is. AreReached ds type (below ds.groups r) is) (indices (take k ranks)) (lists_view lists) rank.index made.items c.loop-rank.invariant c.in_ok-reached.ensures in
    let grown = one_shown (λ v. v.items) lists c.push.new.self.items made c.in_ok-push.ensures.items in
    subst (λ (rs : List ℕ). AreOfRanks ds type rs (lists_view c.push.new.self.items)) (sym (indices_more ranks k record { index = 0 } (omega arith)))
    (subst (λ (ls : List (List ℕ)). AreOfRanks ds type (indices (take k ranks) ++ rank.index ∷ []) ls) (sym grown) zipped)
