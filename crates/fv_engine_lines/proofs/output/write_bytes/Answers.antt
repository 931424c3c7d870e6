use Rattle.std.proofs.Common.{arith, length-drop, suc, refl}
use Rattle.fv_engine_lines.proofs.Writes.{appends_none, some_taken, took_none, wrote_on, wrote_some}
use Rattle.fv_engine_lines.proofs.output.write_bytes.Goals as goal

pub loop-at-init : goal.loop-at-init
loop-at-init g c = record { within = omega arith; taken = (0, refl); written = appends_none (g.W.Output.contents c.args.writer.now) }

pub loop-at-preserved : goal.loop-at-preserved
loop-at-preserved g c = record {
  within = omega (arith, length-drop c.loop-at.at c.args.bytes.now, c.in-Ok.ensures.bound);
  taken = let it = c.loop-at.invariant.taken in (suc it.0, (c.loop-at.writer, it.1, c.in-Ok.ensures.took (some_taken c.in-Ok.n c.in-Ok.n-test.1)));
  written = wrote_on _ (g.W.Output.contents c.loop-at.writer) _ c.loop-at.at c.in-Ok.n c.args.bytes.now c.loop-at.invariant.within c.loop-at.invariant.written c.in-Ok.ensures.bytes;
}

pub returns-in-Ok-eq0-clause-err : goal.returns-in-Ok-eq0-clause-err
returns-in-Ok-eq0-clause-err g c = (
  c.loop-at.writer,
  wrote_some _ _ c.loop-at.at c.args.bytes.now c.loop-at.invariant.written,
  c.loop-at.invariant.taken,
  took_none _ _ c.in-Ok-eq0.field-0 _ c.in-Ok-eq0.field-0-test c.in-Ok-eq0.ensures.bytes,
  c.in-Ok-eq0.ensures.failed c.in-Ok-eq0.field-0-test,
)

pub returns-in-Err-clause-err : goal.returns-in-Err-clause-err
returns-in-Err-clause-err g c =
    (c.loop-at.writer, wrote_some _ _ c.loop-at.at c.args.bytes.now c.loop-at.invariant.written, c.loop-at.invariant.taken, c.in-Err.ensures.bytes, c.in-Err.ensures.failed)
