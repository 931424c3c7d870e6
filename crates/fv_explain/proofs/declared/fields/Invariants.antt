use Rattle.std.proofs.Common.{◌≡◌, drop, max}
use Rattle.fv_bundle.specs.TypesView.{types_view}
use Rattle.fv_explain.specs.Explained.{most_fields}
use Rattle.fv_explain.proofs.declared.fields.Given as goal

-- so far and those that are left make all
abbrev pub invariant-loop-index : goal.invariant-loop-index
invariant-loop-index l = max (most_fields (drop l.index (types_view l.types))) l.most ≡ most_fields (types_view l.types)
