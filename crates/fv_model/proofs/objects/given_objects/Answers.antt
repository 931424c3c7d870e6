use Rattle.std.proofs.Common.{◌≡◌, None, true, false, map, refl, sym, ◌∙◌, rules}
use Rattle.std.specs.Map.{keys_of}
use Rattle.fv_bundle.specs.Typing.{ascend_behind}
use Rattle.fv_model.specs.Reading.{object_types}
use Rattle.fv_model.specs.Views.{part_view}
use Rattle.fv_model.proofs.OfParts.{ascends_so}
use Rattle.fv_model.proofs.objects.given_objects.Goals as goal

pub returns-then-not-are_ascending-clause-exact : goal.returns-then-not-are_ascending-clause-exact
returns-then-not-are_ascending-clause-exact c =
    let no : c.are_ascending.result ≡ false = search (rules, c.if-not-are_ascending.true) in
    let here : ascend_behind None (keys_of (object_types (map part_view c.args.objects.items))) ≡ false = rw c.deref.ensures.value at (sym c.are_ascending.ensures ∙ no) in
    λ other. rw here refl

pub object_types_of-requires : goal.object_types_of-requires
object_types_of-requires c =
    let yes : c.are_ascending.result ≡ true = search (rules, c.if-not-are_ascending.false) in
    let here : ascend_behind None (keys_of (object_types (map part_view c.args.objects.items))) ≡ true = rw c.deref.ensures.value at (sym c.are_ascending.ensures ∙ yes) in
    rw c.deref-2.ensures.value (ascends_so (keys_of (object_types (map part_view c.args.objects.items))) here)

pub invariant_of-draft-clause-ascending : goal.invariant_of-draft-clause-ascending
invariant_of-draft-clause-ascending c =
    let yes : c.are_ascending.result ≡ true = search (rules, c.if-not-are_ascending.false) in
    let here : ascend_behind None (keys_of (object_types (map part_view c.args.objects.items))) ≡ true = rw c.deref.ensures.value at (sym c.are_ascending.ensures ∙ yes) in
    ascends_so (keys_of (object_types (map part_view c.args.objects.items))) here

pub invariant_of-draft-clause-known : goal.invariant_of-draft-clause-known
invariant_of-draft-clause-known c = rw c.deref-2.ensures.value at c.in_ok-type_names.ensures
