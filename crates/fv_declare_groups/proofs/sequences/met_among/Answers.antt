use Rattle.std.proofs.Common.{Bor, ℕ, List, get_or, true≢false, sym, arith}
use Rattle.fv_declare_groups.specs.Whereabouts.{IsMetAt}
use Rattle.fv_first.proofs.Laws.{past}
use Rattle.fv_declare_groups.proofs.Founds.{same_at, no_name}
use Rattle.fv_declare_groups.proofs.sequences.met_among.Goals as goal

pub loop-number-preserved : goal.loop-number-preserved
loop-number-preserved c found rest =
    let i = c.loop-number.number in
    let x = get_or c.args.members.now i no_name in
    c.loop-number.invariant found
    (past (λ (n : Bor (List ℕ)). n.now) (IsMetAt c.args.graph.now c.args.type_name.now) c.args.members.now i x (omega arith) (same_at c.args.members.now i no_name x (omega arith))
    (λ m. true≢false (sym (c.if-member_meets.ensures.1 m))) found rest)
