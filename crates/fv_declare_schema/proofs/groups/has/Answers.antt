use Rattle.std.proofs.Common.{arith, get_or, sym, ap, ◌∙◌, ◌||◌, Bool, false, nat_eq}
use Rattle.fv_declare_schema.proofs.Ranks.{mem_at, mem_more}
use Rattle.fv_declare_schema.proofs.groups.has.Goals as goal

pub returns-then-other-group : goal.returns-then-other-group
returns-then-other-group c =
    sym (mem_at c.args.groups.now c.loop-other.other-index c.args.group.index record { index = 0 } (omega arith) (grind arith))

pub loop-other-preserved : goal.loop-other-preserved
loop-other-preserved c =
    mem_more c.args.groups.now c.loop-other.other-index c.args.group.index record { index = 0 } (omega arith)
    ∙ ap (λ (b : Bool). b || (nat_eq (get_or c.args.groups.now c.loop-other.other-index record { index = 0 }).index c.args.group.index || false)) c.loop-other.invariant ∙ grind arith
