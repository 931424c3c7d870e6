use Rattle.std.proofs.Common.{◌+◌, ◌<◌, ◌≡◌, ◌++◌, map}
use Prim.Native.Nat.{◌^◌}
use Rattle.fv_bundle.specs.Names.{object_types_view}
use Rattle.fv_widening.specs.Narrowed.{found_from, form_narrowed, forms_narrowed}
use Rattle.fv_widening.proofs.narrowing.add_forms.Given as goal

abbrev pub invariant-loop-number : goal.invariant-loop-number
invariant-loop-number l =
    (goal.iterator-loop-number).can_next l.form-iterator ×
    (goal.iterator-loop-number).is_finite l.form-iterator ×
    l.number + (goal.iterator-loop-number).remaining l.form-iterator < 2 ^ 64 ×
    (l.found.items ++ found_from (form_narrowed (object_types_view l.new)) l.number (map (λ e. (e.0.now, e.1.now)) l.form-iterator)
    ≡ l.initial.found.items ++ forms_narrowed (object_types_view l.old) (object_types_view l.new))
