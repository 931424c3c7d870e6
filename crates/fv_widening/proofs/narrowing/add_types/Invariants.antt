use Rattle.std.proofs.Common.{◌≡◌, ◌++◌, drop}
use Rattle.fv_bundle.specs.TypesView.{types_view}
use Rattle.fv_widening.specs.Narrowed.{found_from, named_narrowed, types_narrowed}
use Rattle.fv_widening.proofs.narrowing.add_types.Given as goal

abbrev pub invariant-loop-index : goal.invariant-loop-index
invariant-loop-index l =
    l.found.items ++ found_from (named_narrowed (types_view l.new)) l.index (drop l.index (types_view l.old))
    ≡ l.initial.found.items ++ types_narrowed (types_view l.old) (types_view l.new)
