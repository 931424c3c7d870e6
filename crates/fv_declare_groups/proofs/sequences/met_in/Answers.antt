use Rattle.std.proofs.Common.{ℕ, List, None, refl, subst, arith}
use Rattle.fv_declare_draft.specs.DraftViews.{type_view}
use Rattle.fv_first.specs.First.{IsFirstIn}
use Rattle.fv_declare_groups.specs.Whereabouts.{IsMetAt, IsMetIn}
use Rattle.fv_first.proofs.Laws.{past}
use Rattle.fv_declare_groups.proofs.sequences.met_in.Goals as goal

pub loop-number-preserved : goal.loop-number-preserved
loop-number-preserved c found rest =
    let gs = c.args.graph.now in
    let x = c.index-types-number.result in
    let none = subst (λ (ns : List (List ℕ)). IsFirstIn (IsMetAt gs x.name.now) ns None) c.members_of.ensures c.in_default.ensures in
    c.loop-number.invariant found
    (past type_view (IsMetIn gs) c.args.types.now c.loop-number.number x (omega arith) c.index-types-number.is (None, none, refl) found rest)
