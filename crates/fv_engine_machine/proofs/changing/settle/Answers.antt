use Rattle.std.proofs.Common.{◌≡◌, List, length, map, option_map, refl, subst, arith}
use Rattle.std.proofs.lemmas.Grind.{common_steps}
use Rattle.std.proofs.lemmas.Int.{to_z-of_z}
use mir.Syntax.{w64}
use Rattle.fv_store.specs.Stock.{stock_state as state}
use Rattle.fv_engine_pending.specs.Judging.{AreListingsOf, IsStanding}
use Rattle.fv_validate.specs.Violations.{Judged}
use Rattle.fv_engine_machine.specs.Keeping.{Settles, rows_on}
use Rattle.fv_engine_pending.specs.Ways.{pending_view}
use Rattle.fv_engine_reply.specs.Answers.{violated, refused}
use Rattle.fv_validate.specs.ViolationView.{judged_view}
use Rattle.fv_engine_machine.proofs.Becoming.{no_items, some_items}
use Rattle.fv_engine_machine.proofs.Changes.{frame_still, moves_not, settled_none, settled_some, settled_not}
use Rattle.fv_engine_machine.proofs.changing.settle.Goals as goal

pub returns-in-Err-clause-moves : goal.returns-in-Err-clause-moves
returns-in-Err-clause-moves g c = λ bytes m fits one.
    moves_not (state g.S.Store) c.args.book.now bytes m c.args.store.now c.args.store.now (λ x y. Settles g.R.RuleSet.meaning c.args.now (rows_on (option_map (λ s. s.now) c.args.taken.now.object) (pending_view c.args.pending)) (pending_view c.args.pending) c.args.taken.now.done x (refused c.unjudged.result) y) (frame_still _) (λ holds. holds) (λ holds clean live. (clean, live, refl, refl)) (λ clean holds stay.
    rw c.unjudged.ensures (settled_not g.R.RuleSet.meaning c.args.now _ (pending_view c.args.pending) c.args.taken.now.done _ _ c.in-Err.fault c.in-Err.ensures.0 c.in-Err.ensures.1 stay))

pub returns-then-is_empty-clause-moves : goal.returns-then-is_empty-clause-moves
returns-then-is_empty-clause-moves g c = λ bytes m fits one clean holds.
    let judged : AreListingsOf g.R.RuleSet.meaning c.args.book.now c.args.now (IsStanding (pending_view c.args.pending)) (map judged_view c.in-Ok.records.items) = rw (to_z-of_z w64 c.args.now c.ranges.now) at c.in-Ok.ensures in
    let empty : length c.in-Ok.records.items ≡ 0 = grind (arith, common_steps, c.if-is_empty.ensures, c.in-Ok.records.ok) in
    let none = subst (λ (ls : List Judged). AreListingsOf g.R.RuleSet.meaning c.args.book.now c.args.now (IsStanding (pending_view c.args.pending)) ls) (no_items judged_view c.in-Ok.records.items empty) judged in
    let t = c.keep.ensures.moves c.args.book.now bytes m c.requires.typed fits one clean holds in
    (t.0, settled_none g.R.RuleSet.meaning c.args.now _ (pending_view c.args.pending) c.args.taken.now.done _ _ _ none t.1, t.2)

pub returns-else-is_empty-clause-moves : goal.returns-else-is_empty-clause-moves
returns-else-is_empty-clause-moves g c = λ bytes m fits one.
    let judged : AreListingsOf g.R.RuleSet.meaning c.args.book.now c.args.now (IsStanding (pending_view c.args.pending)) (map judged_view c.in-Ok.records.items) = rw (to_z-of_z w64 c.args.now c.ranges.now) at c.in-Ok.ensures in
    let some : length c.in-Ok.records.items ≡ 0 → ⊥ = λ e. grind (arith, common_steps, c.if-is_empty.ensures, c.in-Ok.records.ok) in
    moves_not (state g.S.Store) c.args.book.now bytes m c.args.store.now c.args.store.now (λ x y. Settles g.R.RuleSet.meaning c.args.now (rows_on (option_map (λ s. s.now) c.args.taken.now.object) (pending_view c.args.pending)) (pending_view c.args.pending) c.args.taken.now.done x (violated (map judged_view c.in-Ok.records.items)) y) (frame_still _) (λ holds. holds) (λ holds clean live. (clean, live, refl, refl)) (λ clean holds stay.
    settled_some g.R.RuleSet.meaning c.args.now _ (pending_view c.args.pending) c.args.taken.now.done _ _ (map judged_view c.in-Ok.records.items) judged (some_items judged_view c.in-Ok.records.items some) stay)
