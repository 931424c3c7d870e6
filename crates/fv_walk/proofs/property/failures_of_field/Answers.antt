use Rattle.std.proofs.Common.{◌≡◌, ◌<◌, ◌≤◌, ◌↔◌, List, Some, length, map, true, is_some, sym, ap, subst, ◌∙◌, rules}
use Rattle.std.proofs.lemmas.Int.{to_z-of_z}
use mir.Syntax.{w64}
use Rattle.fv_declare_schema.specs.Ordered.{AreOrdered}
use Rattle.fv_graph.specs.Graph.{IsIn}
use Rattle.fv_declare_schema.specs.Tables.{indices}
use Rattle.fv_declare_schema.specs.Declarations.{Declarations}
use Rattle.fv_bundle.specs.Views.{types_view, object_view}
use Rattle.fv_bundle.specs.WellTyped.{IsOfType}
use Rattle.fv_bundle.specs.Types.{Declared}
use Rattle.fv_local.specs.Requests.{asked_groups}
use Rattle.fv_walk_traces.specs.Violations.{Violation}
use Rattle.fv_walk.proofs.Asked.{asked_are, asked_within}
use Rattle.fv_walk.specs.FailureView.{failure_view}
use Rattle.fv_walk.specs.Properties.{field_number}
use Rattle.fv_walk.specs.Ranks.{IsToldFor, count_ranks}
use Rattle.fv_walk.proofs.ApartTold.{field_apart}
use Rattle.fv_walk.proofs.Alone.{violations_in}
use Rattle.fv_walk.proofs.Counted.{visits_of_field}
use Rattle.fv_walk.proofs.Loops.{no_more}
use Rattle.fv_walk.proofs.Typed.{type_sound}
use Rattle.fv_walk.proofs.property.failures_of_field.Goals as goal

pub are_too_many-requires : goal.are_too_many-requires
are_too_many-requires g c =
    let ds = c.args.rulebook.now in
    let ordered : AreOrdered ds = subst AreOrdered c.schema-schema.ensures c.is_ordered.ensures in
    let is = asked_are c.deref.result.now c.in_ok-asked.asked.items _ c.deref.ensures.value c.in_ok-asked.ensures in
    rw (c.groups.ensures, c.schema-schema.ensures) (asked_within (length ds.groups) c.args.asked.now c.deref.result.now ordered.grouped.some c.requires.asked is)

pub returns-then-are_too_many-clause-many : goal.returns-then-are_too_many-clause-many
returns-then-are_too_many-clause-many g c =
    let ds = c.args.rulebook.now in
    let object = object_view c.args.object.now in
    let asked = indices c.args.asked.now in
    let is = asked_are c.deref.result.now c.in_ok-asked.asked.items _ c.deref.ensures.value c.in_ok-asked.ensures in
    let number : Some c.in-Some.number ≡ field_number ds.types object.type_name c.args.field.now = rw (c.types.ensures, c.schema-schema.ensures) at c.in-Some.ensures in
    let more : 4096 < count_ranks ds.groups (asked_groups asked) = rw (c.groups.ensures, c.schema-schema.ensures, is) at (c.are_too_many.ensures.0 c.if-are_too_many.true) in
    λ e. (ap is_some (sym number), (count_ranks ds.groups (asked_groups asked), visits_of_field ds object asked, more))

pub gather-requires-clause-sound : goal.gather-requires-clause-sound
gather-requires-clause-sound g c =
    let ds = c.args.rulebook.now in
    let object = object_view c.args.object.now in
    let same : types_view c.types-2.result.now ≡ ds.types = c.types-2.ensures ∙ ap (λ (x : Declarations). x.types) c.schema-schema.ensures in
    let is : c.is_of_type.result ≡ true = search (rules, c.if-not-is_of_type.false) in
    type_sound ds object (subst AreOrdered c.schema-schema.ensures c.is_ordered.ensures) (subst (λ (ts : Declared). IsOfType ts object) same (c.is_of_type.ensures.0 is))

pub gather-requires-clause-asked : goal.gather-requires-clause-asked
gather-requires-clause-asked g c =
    let ds = c.args.rulebook.now in
    let ordered : AreOrdered ds = subst AreOrdered c.schema-schema.ensures c.is_ordered.ensures in
    let is = asked_are c.deref-2.result.now c.in_ok-asked.asked.items _ c.deref-2.ensures.value c.in_ok-asked.ensures in
    asked_within (length ds.groups) c.args.asked.now c.deref-2.result.now ordered.grouped.some c.requires.asked is

pub returns-clause-violations : goal.returns-clause-violations
returns-clause-violations g c = λ typed.
    let m = g.R.RuleSet.meaning in
    let ds = c.args.rulebook.now in
    let object = object_view c.args.object.now in
    let name = c.args.field.now in
    let asked = indices c.args.asked.now in
    let fs : List Violation = map failure_view c.in_ok-gather.field-0.items in
    let is = asked_are c.deref-2.result.now c.in_ok-asked.asked.items _ c.deref-2.ensures.value c.in_ok-asked.ensures in
    let number : Some c.in-Some.number ≡ field_number ds.types object.type_name name = rw (c.types.ensures, c.schema-schema.ensures) at c.in-Some.ensures in
    let exact : (v : Violation) → IsIn fs v ↔ IsToldFor m ds c.args.now object c.in-Some.number (asked_groups asked) v = rw (to_z-of_z w64 c.args.now c.ranges.now, is) at c.in_ok-gather.ensures in
    violations_in m ds c.args.now object name asked c.in-Some.number fs (sym number) exact

pub returns-clause-apart : goal.returns-clause-apart
returns-clause-apart g c =
    let m = g.R.RuleSet.meaning in
    let ds = c.args.rulebook.now in
    let object = object_view c.args.object.now in
    let name = c.args.field.now in
    let asked = indices c.args.asked.now in
    let fs : List Violation = map failure_view c.in_ok-gather.field-0.items in
    let is = asked_are c.deref-2.result.now c.in_ok-asked.asked.items _ c.deref-2.ensures.value c.in_ok-asked.ensures in
    let number : Some c.in-Some.number ≡ field_number ds.types object.type_name name = rw (c.types.ensures, c.schema-schema.ensures) at c.in-Some.ensures in
    let exact : (v : Violation) → IsIn fs v ↔ IsToldFor m ds c.args.now object c.in-Some.number (asked_groups asked) v = rw (to_z-of_z w64 c.args.now c.ranges.now, is) at c.in_ok-gather.ensures in
    let same : types_view c.types-2.result.now ≡ ds.types = c.types-2.ensures ∙ ap (λ (x : Declarations). x.types) c.schema-schema.ensures in
    let told : c.is_of_type.result ≡ true = search (rules, c.if-not-is_of_type.false) in
    let typed = subst (λ (ts : Declared). IsOfType ts object) same (c.is_of_type.ensures.0 told) in
    field_apart m ds c.args.now asked object name fs (subst AreOrdered c.schema-schema.ensures c.is_ordered.ensures) typed (violations_in m ds c.args.now object name asked c.in-Some.number fs (sym number) exact)

pub returns-clause-few : goal.returns-clause-few
returns-clause-few g c =
    let ds = c.args.rulebook.now in
    let object = object_view c.args.object.now in
    let asked = indices c.args.asked.now in
    let is = asked_are c.deref.result.now c.in_ok-asked.asked.items _ c.deref.ensures.value c.in_ok-asked.ensures in
    let few = no_more (count_ranks c.groups.result.now (indices c.deref.result.now)) c.are_too_many.result c.if-are_too_many.false c.are_too_many.ensures.1 in
    let less : count_ranks ds.groups (asked_groups asked) ≤ 4096 = rw (c.groups.ensures, c.schema-schema.ensures, is) at few in
    (count_ranks ds.groups (asked_groups asked), visits_of_field ds object asked, less)

pub returns-then-not-is_of_type-clause-few : goal.returns-then-not-is_of_type-clause-few
returns-then-not-is_of_type-clause-few g c =
    let ds = c.args.rulebook.now in
    let object = object_view c.args.object.now in
    let asked = indices c.args.asked.now in
    let is = asked_are c.deref.result.now c.in_ok-asked.asked.items _ c.deref.ensures.value c.in_ok-asked.ensures in
    let few = no_more (count_ranks c.groups.result.now (indices c.deref.result.now)) c.are_too_many.result c.if-are_too_many.false c.are_too_many.ensures.1 in
    let less : count_ranks ds.groups (asked_groups asked) ≤ 4096 = rw (c.groups.ensures, c.schema-schema.ensures, is) at few in
    (count_ranks ds.groups (asked_groups asked), visits_of_field ds object asked, less)
