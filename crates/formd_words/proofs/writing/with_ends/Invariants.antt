use Rattle.std.specs.Prelude.{◌≡◌, map, take, string_bytes}
use Rattle.std.specs.List.{flat_map}
use Rattle.fv_engine_lines.specs.Lines.{ended}
use Rattle.formd_words.proofs.writing.with_ends.Given as goal

abbrev pub invariant-lines : goal.invariant-lines
invariant-lines l = l.text.items ≡ flat_map ended (map string_bytes (take l.line-index l.lines))
