use Rattle.std.proofs.Common.{◌≡◌, ◌<◌, ◌+◌, ◌^◌, ◌++◌, map, length}
use Rattle.std.specs.Vec.Iter.{into_iter_items, into_iter_len}
use Rattle.fv_engine_pending.specs.Fits.{Keeps}
use Rattle.fv_engine_pending.specs.Steps.{step_view, steps_made}
use Rattle.fv_engine_pending.specs.Ways.{pending_view}
use Rattle.fv_bundle.specs.TypesView.{types_view}
use Rattle.fv_engine_pending.proofs.applying.apply_all.Given as goal

abbrev pub invariant-loop-step : goal.invariant-loop-step
invariant-loop-step l = record {
  made : steps_made (types_view l.types) l.number (map step_view (into_iter_items l.step-iterator)) (pending_view l.pending)
      ≡ steps_made (types_view l.types) 0 (map step_view l.fn.steps.items) (pending_view l.fn.pending);
  all : l.yielded ++ into_iter_items l.step-iterator ≡ l.fn.steps.items;
  keeps : Keeps (types_view l.types) (map step_view l.yielded) (pending_view l.fn.pending) (pending_view l.pending);
  each : into_iter_len l.step-iterator ≡ length (into_iter_items l.step-iterator);
  few : l.number + into_iter_len l.step-iterator < 2 ^ 64;
}
