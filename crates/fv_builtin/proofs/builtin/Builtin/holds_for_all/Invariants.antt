use Rattle.std.proofs.Common.{◌≡◌, drop}
use Rattle.std.specs.List.{list_all}
use Rattle.fv_builtin.specs.Says.{says}
use Rattle.fv_builtin.specs.Views.{builtin_view}
use Rattle.fv_datum.specs.View.{view}
use Rattle.fv_builtin.proofs.builtin.Builtin.holds_for_all.Given as goal

abbrev pub invariant-loop-datum : goal.invariant-loop-datum
invariant-loop-datum l =
    list_all (λ d. says (builtin_view l.self) (view d) l.now) (drop l.datum-index l.data)
    ≡ list_all (λ d. says (builtin_view l.self) (view d) l.now) l.data
