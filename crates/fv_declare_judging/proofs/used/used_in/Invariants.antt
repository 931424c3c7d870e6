use Rattle.std.proofs.Common.{◌≡◌, ◌++◌, map, drop}
use Rattle.fv_flatten.specs.UseViews.{use_view as flat_use_view}
use Rattle.fv_declare_draft.specs.UseViews.{use_view}
use Rattle.fv_declare_judging.specs.Used.{used}
use Rattle.fv_declare_judging.proofs.used.used_in.Given as goal

abbrev pub invariant-loop-given : goal.invariant-loop-given
invariant-loop-given l =
    map flat_use_view l.flat.items ++ map used (map use_view (drop l.given-index l.uses)) ≡ map used (map use_view l.uses)
