-- Which failure of serving is told.
use Rattle.std.proofs.Common.{◌≡◌, refl}
use Rattle.fv_engine_lines.specs.declared.serving.ServeFault.{ServeFault}
use Rattle.fv_engine_lines.specs.declared.serving.ServeFault.TheVariants as serve
use Rattle.formd_words.specs.declared.failure.Failure.{Failure}
use Rattle.formd_words.specs.Failures.{IsUnserved, serve_failure}

pub serving_failed : (unread broke none : Type 0) (f : ServeFault) (told : Failure) → told ≡ serve_failure f → (f ≡ serve.Read → unread) → (f ≡ serve.Write → broke)
    → (f ≡ serve.Memory → none) → IsUnserved unread broke none told
serving_failed unread broke none serve.Read told is r w m = rw is (r refl)
serving_failed unread broke none serve.Write told is r w m = rw is (w refl)
serving_failed unread broke none serve.Memory told is r w m = rw is (m refl)
