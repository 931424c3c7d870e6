use Rattle.std.proofs.Common.{◌≡◌, List, length, map, subst, arith}
use Rattle.std.proofs.lemmas.Grind.{common_steps}
use Rattle.std.proofs.lemmas.Int.{to_z-of_z}
use mir.Syntax.{w64}
use Rattle.fv_engine_pending.specs.Judging.{AreListingsOf, IsStanding}
use Rattle.fv_engine_machine.proofs.Recordless.{judged_none, judged_not, judged_some}
use Rattle.fv_engine_machine.proofs.Becoming.{no_items, some_items}
use Rattle.fv_engine_pending.specs.Ways.{pending_view}
use Rattle.fv_validate.specs.Violations.{Judged}
use Rattle.fv_validate.specs.ViolationView.{judged_view}
use Rattle.fv_engine_machine.proofs.bare.judged.Goals as goal

pub returns-in-Err : goal.returns-in-Err
returns-in-Err g c = rw c.unjudged.ensures (judged_not g.R.RuleSet.meaning c.args.book.now c.args.now (pending_view c.args.pending.now) c.args.done c.in-Err.fault c.in-Err.ensures.0 c.in-Err.ensures.1)

pub returns-then-is_empty : goal.returns-then-is_empty
returns-then-is_empty g c =
    let judged : AreListingsOf g.R.RuleSet.meaning c.args.book.now c.args.now (IsStanding (pending_view c.args.pending.now)) (map judged_view c.in-Ok.records.items) = rw (to_z-of_z w64 c.args.now c.ranges.now) at c.in-Ok.ensures in
    let empty : length c.in-Ok.records.items ≡ 0 = grind (arith, common_steps, c.if-is_empty.ensures, c.in-Ok.records.ok) in
    judged_none g.R.RuleSet.meaning c.args.book.now c.args.now (pending_view c.args.pending.now) c.args.done
    (subst (λ (ls : List Judged). AreListingsOf g.R.RuleSet.meaning c.args.book.now c.args.now (IsStanding (pending_view c.args.pending.now)) ls) (no_items judged_view c.in-Ok.records.items empty) judged)

pub returns-else-is_empty : goal.returns-else-is_empty
returns-else-is_empty g c =
    let judged : AreListingsOf g.R.RuleSet.meaning c.args.book.now c.args.now (IsStanding (pending_view c.args.pending.now)) (map judged_view c.in-Ok.records.items) = rw (to_z-of_z w64 c.args.now c.ranges.now) at c.in-Ok.ensures in
    let some : length c.in-Ok.records.items ≡ 0 → ⊥ = λ is. grind (arith, common_steps, c.if-is_empty.ensures, c.in-Ok.records.ok) in
    judged_some g.R.RuleSet.meaning c.args.book.now c.args.now (pending_view c.args.pending.now) c.args.done (map judged_view c.in-Ok.records.items) judged (some_items judged_view c.in-Ok.records.items some)
