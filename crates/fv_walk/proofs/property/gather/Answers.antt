use Rattle.std.proofs.Common.{◌≡◌, ◌<◌, ◌↔◌, ◌++◌, ℕ, List, map, length, get_or, take, true, sym, subst, arith}
use Rattle.std.proofs.lemmas.Int.{to_z-of_z}
use Rattle.std.proofs.lemmas.List.{take_all}
use Rattle.std.specs.List.{All}
use mir.Syntax.{w64}
use Rattle.fv_graph.specs.Graph.{IsIn}
use Rattle.fv_declare_schema.specs.Groups.{ranks}
use Rattle.fv_declare_schema.specs.Tables.{indices}
use Rattle.fv_declare_schema.specs.declared.declared.GroupId.{GroupId}
use Rattle.fv_local.specs.FailureView as local
use Rattle.fv_local.specs.declared.failure.LocalFailure as code
use Rattle.fv_bundle.specs.Views.{object_view}
use Rattle.fv_walk_traces.specs.OneField.{is_in_field}
use Rattle.fv_walk_traces.specs.Turns.{LocalFailure}
use Rattle.fv_walk_traces.specs.Violations.{Violation}
use Rattle.fv_walk.proofs.Moves.{same_count, index_at}
use Rattle.fv_walk.specs.FailureView.{failure_view}
use Rattle.fv_walk.specs.Ranks.{FailsFirst, FailsIn, violation_in, IsToldFor}
use Rattle.fv_walk.proofs.Alone.{in_field}
use Rattle.fv_walk.proofs.Loops.{all_seen, told_more}
use Rattle.fv_walk.proofs.property.gather.Goals as goal

pub add_failures-requires-clause-field : goal.add_failures-requires-clause-field
add_failures-requires-clause-field g c =
    let m = g.R.RuleSet.meaning in
    let ds = c.args.rulebook.now in
    let object = object_view c.args.object.now in
    let n = c.args.field in
    let found = c.in_ok-found.found.items in
    let zero : GroupId = record { index = 0 } in
    let group = (get_or c.args.asked.now c.loop-group.group-index zero).index in
    let exact : (f : LocalFailure) → IsIn (map local.failure_view found) f ↔ FailsFirst (FailsIn m ds c.args.now object n) (ranks ds.groups group) f = rw (to_z-of_z w64 c.args.now c.ranges.now) at c.in_ok-found.ensures.exact in
    let each : All (λ (f : code.LocalFailure). (k : ℕ) × (is_in_field k (local.failure_view f) ≡ true)) found =
    all_seen local.failure_view (λ (f : LocalFailure). (k : ℕ) × (is_in_field k f ≡ true)) found
    (λ f h. let first = (exact f).0 h in (n, (in_field m ds c.args.now object n first.1 f first.3).1)) in
    subst (All (λ (f : code.LocalFailure). (k : ℕ) × (is_in_field k (local.failure_view f) ≡ true))) (sym c.deref.ensures.value) each

pub loop-group-preserved : goal.loop-group-preserved
loop-group-preserved g c =
    let m = g.R.RuleSet.meaning in
    let ds = c.args.rulebook.now in
    let object = object_view c.args.object.now in
    let n = c.args.field in
    let asked = c.args.asked.now in
    let i = c.loop-group.group-index in
    let found = c.in_ok-found.found.items in
    let before = map failure_view c.loop-group.failures.items in
    let after = map failure_view c.add_failures.new.failures.items in
    let zero : GroupId = record { index = 0 } in
    let group = (get_or asked i zero).index in
    let less : i < length (indices asked) = (let d = same_count (λ (x : GroupId). x.index) asked in omega (arith, d, c.loop-group-test.true)) in
    let exact : (f : LocalFailure) → IsIn (map local.failure_view found) f ↔ FailsFirst (FailsIn m ds c.args.now object n) (ranks ds.groups group) f = rw (to_z-of_z w64 c.args.now c.ranges.now) at c.in_ok-found.ensures.exact in
    let so_far : (v : Violation) → IsIn before v ↔ IsToldFor m ds c.args.now object n (take i (indices asked)) v = rw (to_z-of_z w64 c.args.now c.ranges.now) at c.loop-group.invariant in
    let added : after ≡ before ++ map (violation_in object) (map local.failure_view found) = rw c.deref.ensures.value at c.in_ok-add_failures.ensures in
    rw (to_z-of_z w64 c.args.now c.ranges.now)
    (told_more m ds c.args.now object n local.failure_view found before after (indices asked) i group less (sym (index_at asked i zero c.loop-group-test.true)) added exact so_far)

pub returns : goal.returns
returns g c =
    let m = g.R.RuleSet.meaning in
    let object = object_view c.args.object.now in
    let asked = c.args.asked.now in
    let i = c.loop-group.group-index in
    let told = map failure_view c.loop-group.failures.items in
    let so_far : (v : Violation) → IsIn told v ↔ IsToldFor m c.args.rulebook.now c.args.now object c.args.field (take i (indices asked)) v = rw (to_z-of_z w64 c.args.now c.ranges.now) at c.loop-group.invariant in
    let d = same_count (λ (x : GroupId). x.index) asked in
    subst (λ (gs : List ℕ). (v : Violation) → IsIn told v ↔ IsToldFor m c.args.rulebook.now c.args.now object c.args.field gs v) (take_all i (indices asked) (omega (arith, d, c.loop-group-test.false))) so_far
