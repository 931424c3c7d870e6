use Rattle.std.proofs.Common.{◌≡◌, ◌++◌, length, map, ap, ◌∙◌, arith}
use Rattle.std.proofs.lemmas.Grind.{common_steps}
use Rattle.std.proofs.lemmas.Int.{to_z-of_z}
use mir.Syntax.{w64}
use Rattle.fv_engine_pending.specs.Judging.{IsListingOf}
use Rattle.fv_engine_pending.proofs.Judged.{none_added, one_added}
use Rattle.fv_store.specs.Stored.{stored_view}
use Rattle.fv_validate.specs.ViolationView.{judged_view, violation_view}
use Rattle.fv_engine_pending.proofs.judging.add_judged.Goals as goal

pub returns-then-is_empty : goal.returns-then-is_empty
returns-then-is_empty g c =
    let found = c.in_ok-violations.violations.items in
    let empty : length found ≡ 0 = grind (arith, common_steps, c.if-is_empty.ensures, c.in_ok-violations.violations.ok) in
    let listing : IsListingOf g.R.RuleSet.meaning c.args.book.now c.args.now (stored_view c.args.stored.now) (map violation_view found) = rw (to_z-of_z w64 c.args.now c.ranges.now) at c.in_ok-violations.ensures in
    (map violation_view found, listing, none_added (map judged_view c.args.judged.now.items) c.args.id.now violation_view found empty)

pub returns-in-Ok : goal.returns-in-Ok
returns-in-Ok g c =
    let found = c.in_ok-violations.violations.items in
    let some : length found ≡ 0 → ⊥ = λ e. grind (arith, common_steps, c.if-is_empty.ensures, c.in_ok-violations.violations.ok) in
    let listing : IsListingOf g.R.RuleSet.meaning c.args.book.now c.args.now (stored_view c.args.stored.now) (map violation_view found) = rw (to_z-of_z w64 c.args.now c.ranges.now) at c.in_ok-violations.ensures in
    (map violation_view found, listing, c.in-Ok.ensures ∙ ap (λ more. map judged_view c.args.judged.now.items ++ more) (one_added c.args.id.now violation_view found some))
