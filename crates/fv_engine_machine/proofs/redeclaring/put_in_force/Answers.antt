use Rattle.std.proofs.Common.{◌≡◌, [], List, length, map, ap, subst, ◌∙◌, arith}
use Rattle.std.proofs.lemmas.Grind.{common_steps}
use Rattle.std.proofs.lemmas.Int.{to_z-of_z}
use mir.Syntax.{w64}
use Rattle.fv_declare_schema.specs.Declarations.{Declarations}
use Rattle.fv_engine_pending.specs.Judging.{AreListingsOf}
use Rattle.fv_engine_machine.specs.Machines.{contents}
use Rattle.fv_engine_machine.specs.Redeclaring.{IsAgain}
use Rattle.fv_engine_machine.proofs.Becoming.{fails_so, no_items, some_items}
use Rattle.fv_engine_machine.proofs.Redeclared.{is_redeclared, is_undone, is_unjudged, is_violated}
use Rattle.fv_validate.specs.Violations.{Judged}
use Rattle.fv_validate.specs.ViolationView.{judged_view}
use Rattle.fv_bundle.specs.Types.{FieldsApart}
use Rattle.fv_store.specs.Stock.{stock_state}
use Rattle.fv_engine_machine.proofs.redeclaring.put_in_force.Goals as goal

pub returns-in-Err : goal.returns-in-Err
returns-in-Err g c = λ known ds shallow declares.
    let e = c.in-Err.ensures in
    rw c.unjudged.ensures (is_unjudged (stock_state g.S.Store) g.R.RuleSet.meaning known c.args.text.now c.args.now ds c.args.next.now declares c.args.store.now c.judge_all.new.store
    e.frame e.text e.stays e.untouched c.in-Err.fault e.open (λ clean m holds. e.refused clean (contents c.args.store.now.text ds m) shallow holds))

pub returns-in-Ok-redeclare : goal.returns-in-Ok-redeclare
returns-in-Ok-redeclare g c = λ known ds shallow declares.
    let e = c.in-Ok.ensures in
    let next = c.args.next.now in
    let judged = rw (to_z-of_z w64 c.args.now c.ranges.now) at e.judged in
    let empty : length c.in-Ok.records.items ≡ 0 = grind (arith, common_steps, c.if-is_empty.ensures, c.in-Ok.records.ok) in
    let none : map judged_view c.in-Ok.records.items ≡ [] = no_items judged_view c.in-Ok.records.items empty in
    let apart : FieldsApart next.types = subst FieldsApart (c.types.ensures ∙ ap (λ (d : Declarations). d.types) c.schema.ensures) c.are_apart.ensures in
    let w = c.in-Ok-redeclare.ensures in
    let is = c.as_bytes.ensures.value in
    is_redeclared (stock_state g.S.Store) g.R.RuleSet.meaning known c.args.text.now c.args.now ds next declares c.args.store.now c.judge_all.new.store
    e.frame e.text e.stays e.untouched c.redeclare.new.self w.frame
    (λ clean m holds. let j = judged clean (contents c.args.store.now.text ds m) shallow holds in (j.0, subst (λ (ls : List Judged). AreListingsOf g.R.RuleSet.meaning next c.args.now (IsAgain next m) ls) none j.1))
    apart w.open (rw is at w.text) (rw is at w.made) w.room

pub returns-then-is_empty : goal.returns-then-is_empty
returns-then-is_empty g c = λ known ds shallow declares.
    let e = c.in-Ok.ensures in
    let next = c.args.next.now in
    let judged = rw (to_z-of_z w64 c.args.now c.ranges.now) at e.judged in
    let empty : length c.in-Ok.records.items ≡ 0 = grind (arith, common_steps, c.if-is_empty.ensures, c.in-Ok.records.ok) in
    let none : map judged_view c.in-Ok.records.items ≡ [] = no_items judged_view c.in-Ok.records.items empty in
    let w = c.in-Err-redeclare.ensures in
    let told = rw c.as_bytes.ensures.value at w.cause in
    is_undone (stock_state g.S.Store) g.R.RuleSet.meaning known c.args.text.now c.args.now ds next declares c.args.store.now c.judge_all.new.store
    e.frame e.text e.stays e.untouched c.redeclare.new.self w.frame
    (λ clean m holds. let j = judged clean (contents c.args.store.now.text ds m) shallow holds in (j.0, subst (λ (ls : List Judged). AreListingsOf g.R.RuleSet.meaning next c.args.now (IsAgain next m) ls) none j.1))
    c.undone.result (fails_so c.in-Err-redeclare.fault c.undone.result _ c.undone.ensures.store c.undone.ensures.memory (λ is clean k holds short. told clean is k holds short))
    w.same_text w.undone w.untouched

pub returns : goal.returns
returns g c = λ known ds shallow declares.
    let e = c.in-Ok.ensures in
    let judged = rw (to_z-of_z w64 c.args.now c.ranges.now) at e.judged in
    let some : length c.in-Ok.records.items ≡ 0 → ⊥ = λ is. grind (arith, common_steps, c.if-is_empty.ensures, c.in-Ok.records.ok) in
    is_violated (stock_state g.S.Store) g.R.RuleSet.meaning known c.args.text.now c.args.now ds c.args.next.now declares c.args.store.now c.judge_all.new.store
    e.frame e.text e.stays e.untouched (map judged_view c.in-Ok.records.items) (some_items judged_view c.in-Ok.records.items some) e.open
    (λ clean m holds. judged clean (contents c.args.store.now.text ds m) shallow holds)
