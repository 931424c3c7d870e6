use Rattle.std.proofs.Common.{ℕ, ◌≤◌, length, take, ◌-◌}
use Rattle.std.specs.Io.KnownBytes.{Appends}
use Rattle.fv_engine_lines.specs.Reads.{Times}
use Rattle.fv_engine_lines.proofs.output.write_bytes.Given as goal

abbrev pub invariant-loop-at : goal.invariant-loop-at
invariant-loop-at g l = record {
  within : l.at ≤ length l.bytes;
  taken : (n : ℕ) × Times g.W.Output.takes n l.initial.writer l.writer;
  written : Appends (g.W.Output.contents l.initial.writer) (g.W.Output.contents l.writer) (take l.at l.bytes);
}

abbrev pub decreases-loop-at : goal.decreases-loop-at
decreases-loop-at g l = length l.bytes - l.at
