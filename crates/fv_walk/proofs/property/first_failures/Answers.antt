use Rattle.std.proofs.Common.{◌≡◌, ◌<◌, ◌≤◌, ◌↔◌, ℕ, List, map, length, get_or, sym, subst, arith}
use Rattle.std.proofs.lemmas.Grind.{common_steps}
use Rattle.std.proofs.lemmas.Int.{to_z-of_z}
use mir.Syntax.{w64}
use Rattle.fv_graph.specs.Graph.{IsIn}
use Rattle.fv_declare_schema.specs.Groups.{ranks}
use Rattle.fv_declare_schema.specs.Tables.{indices}
use Rattle.fv_declare_schema.specs.declared.declared.GroupId.{GroupId}
use Rattle.fv_local.specs.FailureView.{failure_view}
use Rattle.fv_bundle.specs.Views.{object_view}
use Rattle.fv_walk_traces.specs.Turns.{LocalFailure}
use Rattle.fv_walk.proofs.Moves.{same_count, index_at}
use Rattle.fv_walk.specs.Ranks.{FailsFirst, FailsIn}
use Rattle.fv_walk.proofs.Loops.{NoneBefore, first_is, none_more, none_first}
use Rattle.fv_walk.proofs.property.first_failures.Goals as goal

pub loop-rank-init : goal.loop-rank-init
loop-rank-init g c = λ j before f less. absurd (omega (arith, less))

pub returns-then-not-is_empty-clause-exact : goal.returns-then-not-is_empty-clause-exact
returns-then-not-is_empty-clause-exact g c =
    let fails = FailsIn g.R.RuleSet.meaning c.args.rulebook.now c.args.now (object_view c.args.object.now) c.args.field in
    let groups = c.ranks-rank-items.result.now in
    let i = c.loop-rank.rank-index in
    let zero : GroupId = record { index = 0 } in
    let found = c.in_ok-failures.failures.items in
    let less : i < length (indices groups) = (let d = same_count (λ (x : GroupId). x.index) groups in omega (arith, d, c.loop-rank-test.true)) in
    let is_ranks : indices groups ≡ ranks c.args.rulebook.now.groups c.args.group.index = rw (c.groups.ensures, c.schema.ensures) at c.ranks-rank-items.ensures.ranks in
    let exact : (f : LocalFailure) → IsIn (map failure_view found) f ↔ fails (get_or groups i zero).index f = rw (to_z-of_z w64 c.args.now c.ranges.now) at c.in_ok-failures.ensures.exact in
    let none : NoneBefore fails (indices groups) i = rw (to_z-of_z w64 c.args.now c.ranges.now) at c.loop-rank.invariant in
    let some : length found ≡ 0 → ⊥ = λ e. grind (arith, common_steps, c.if-not-is_empty.ensures, c.in_ok-failures.failures.ok) in
    subst (λ (gs : List ℕ). (f : LocalFailure) → IsIn (map failure_view found) f ↔ FailsFirst fails gs f) is_ranks
    (first_is fails (indices groups) i failure_view found (get_or groups i zero).index less (sym (index_at groups i zero c.loop-rank-test.true)) some none exact)

pub loop-rank-preserved : goal.loop-rank-preserved
loop-rank-preserved g c =
    let fails = FailsIn g.R.RuleSet.meaning c.args.rulebook.now c.args.now (object_view c.args.object.now) c.args.field in
    let groups = c.ranks-rank-items.result.now in
    let i = c.loop-rank.rank-index in
    let zero : GroupId = record { index = 0 } in
    let found = c.in_ok-failures.failures.items in
    let less : i < length (indices groups) = (let d = same_count (λ (x : GroupId). x.index) groups in omega (arith, d, c.loop-rank-test.true)) in
    let exact : (f : LocalFailure) → IsIn (map failure_view found) f ↔ fails (get_or groups i zero).index f = rw (to_z-of_z w64 c.args.now c.ranges.now) at c.in_ok-failures.ensures.exact in
    let none : NoneBefore fails (indices groups) i = rw (to_z-of_z w64 c.args.now c.ranges.now) at c.loop-rank.invariant in
    let empty : length found ≡ 0 = grind (arith, common_steps, c.if-not-is_empty.ensures, c.in_ok-failures.failures.ok) in
    rw (to_z-of_z w64 c.args.now c.ranges.now) (none_more fails (indices groups) i failure_view found (get_or groups i zero).index less (sym (index_at groups i zero c.loop-rank-test.true)) empty none exact)

pub returns-clause-exact : goal.returns-clause-exact
returns-clause-exact g c =
    let fails = FailsIn g.R.RuleSet.meaning c.args.rulebook.now c.args.now (object_view c.args.object.now) c.args.field in
    let groups = c.ranks-rank-items.result.now in
    let i = c.loop-rank.rank-index in
    let past : length (indices groups) ≤ i = (let d = same_count (λ (x : GroupId). x.index) groups in omega (arith, d, c.loop-rank-test.false)) in
    let is_ranks : indices groups ≡ ranks c.args.rulebook.now.groups c.args.group.index = rw (c.groups.ensures, c.schema.ensures) at c.ranks-rank-items.ensures.ranks in
    let none : NoneBefore fails (indices groups) i = rw (to_z-of_z w64 c.args.now c.ranges.now) at c.loop-rank.invariant in
    subst (λ (gs : List ℕ). (f : LocalFailure) → IsIn (map failure_view c.new.result.items) f ↔ FailsFirst fails gs f) is_ranks
    (none_first fails (indices groups) i failure_view c.new.result.items past c.new.ensures.items none)
