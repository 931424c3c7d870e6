use Rattle.std.proofs.Common.{◌≡◌, ℕ, List, [], map, length, ap, subst, arith}
use Rattle.std.proofs.lemmas.Grind.{common_steps}
use Rattle.std.proofs.lemmas.Int.{to_z-of_z}
use mir.Syntax.{w64}
use Rattle.fv_bundle.specs.Views.{object_view}
use Rattle.fv_local.specs.Told.{told_view}
use Rattle.fv_local.proofs.First.{first_is, none_more, none_is, some_told, none_told, TellsAll}
use Rattle.fv_local.proofs.uses.told_in_ranks.Goals as goal

pub returns-then-not-is_empty-clause-told : goal.returns-then-not-is_empty-clause-told
returns-then-not-is_empty-clause-told g c =
    let m = g.R.RuleSet.meaning in
    let object = object_view c.args.object.now in
    let os = c.args.occurrences.now in
    let items = c.in_ok-failures.failures.items in
    let some : length items ≡ 0 → ⊥ = λ e. grind (arith, common_steps, c.if-not-is_empty.ensures, c.in_ok-failures.failures.ok) in
    let one = some_told items some in
    let told : TellsAll m c.args.now object os c.deref.result.now (map told_view items) = rw (to_z-of_z w64 c.args.now c.ranges.now) at c.in_ok-failures.ensures.told in
    first_is m c.args.now object os c.args.ranks.now c.loop-uses.uses-index c.uses-item.result (map told_view items) one.0 (omega arith) c.uses-item.is (rw (to_z-of_z w64 c.args.now c.ranges.now) at c.loop-uses.invariant) one.1
    (subst (λ (l : List ℕ). TellsAll m c.args.now object os l (map told_view items)) c.deref.ensures.value told)

pub loop-uses-preserved : goal.loop-uses-preserved
loop-uses-preserved g c =
    let m = g.R.RuleSet.meaning in
    let object = object_view c.args.object.now in
    let os = c.args.occurrences.now in
    let items = c.in_ok-failures.failures.items in
    let none : length items ≡ 0 = grind (arith, common_steps, c.if-not-is_empty.ensures, c.in_ok-failures.failures.ok) in
    let told : TellsAll m c.args.now object os c.deref.result.now (map told_view items) = rw (to_z-of_z w64 c.args.now c.ranges.now) at c.in_ok-failures.ensures.told in
    rw (to_z-of_z w64 c.args.now c.ranges.now) (none_more m c.args.now object os c.args.ranks.now c.loop-uses.uses-index c.uses-item.result (map told_view items) (omega arith) c.uses-item.is (none_told items none)
    (rw (to_z-of_z w64 c.args.now c.ranges.now) at c.loop-uses.invariant)
    (subst (λ (l : List ℕ). TellsAll m c.args.now object os l (map told_view items)) c.deref.ensures.value told))

pub returns-clause-told : goal.returns-clause-told
returns-clause-told g c =
    let m = g.R.RuleSet.meaning in
    let empty : map told_view c.new.result.items ≡ [] = ap (map told_view) c.new.ensures.items in
    none_is m c.args.now (object_view c.args.object.now) c.args.occurrences.now c.args.ranks.now c.loop-uses.uses-index _ (omega arith) empty (rw (to_z-of_z w64 c.args.now c.ranges.now) at c.loop-uses.invariant)
