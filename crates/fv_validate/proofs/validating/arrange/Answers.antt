use Rattle.std.proofs.Common.{◌≡◌, rules}
use Rattle.std.proofs.lemmas.Fn.{dedup_same}
use Rattle.std.proofs.lemmas.List.Sorted.{answers_always}
use Rattle.std.specs.List.{dedup}
use Rattle.std.specs.Ordering.{eq_by_cmp}
use Rattle.fv_validate.specs.ViolationView.{violation_view}
use Rattle.fv_validate.proofs.Arranged.{by_report, ranks, ascends, same_members}
use Rattle.fv_validate.proofs.validating.arrange.Goals as goal

-- what is left of what was sorted
left : (c : goal.After-dedup_by) → c.dedup_by.new.self.items ≡ dedup (eq_by_cmp (by_report violation_view)) c.sort_unstable_by.new.self.items
left c = dedup_same _ (eq_by_cmp (by_report violation_view)) _ (λ x y b f' x' y' k. search rules) _ _ c.dedup_by.ensures.filtered

pub returns-clause-same : goal.returns-clause-same
returns-clause-same c r =
    let same = same_members violation_view c.args.violations.now.items c.sort_unstable_by.new.self.items c.sort_unstable_by.ensures.permutation c.requires r in
    rw (left c) same

pub returns-clause-ascending : goal.returns-clause-ascending
returns-clause-ascending c =
    let sorted = c.sort_unstable_by.ensures.sorted _ (ranks violation_view) (answers_always _ _ _ (λ f a r f' k. search rules)) in
    rw (left c) (ascends violation_view c.sort_unstable_by.new.self.items sorted)
