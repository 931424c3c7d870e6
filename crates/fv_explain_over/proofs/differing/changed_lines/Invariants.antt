use Rattle.std.proofs.Common.{◌≡◌, ◌++◌, ◌+◌, false, length, map, string_bytes}
use Rattle.fv_explain_over.specs.Changes.{change_text}
use Rattle.fv_explain_over.proofs.ToldLemmas.{seen}
use Rattle.fv_explain_over.proofs.differing.changed_lines.Given as goal

-- there is a line for each change so far; and the lines, and those of the changes that are left, are those of all
abbrev pub invariant-loop-place : goal.invariant-loop-place
invariant-loop-place l =
    (length (map string_bytes l.lines.items) + length l.place-iterator ≡ length l.initial.place-iterator)
    × (l.json ≡ false → map string_bytes l.lines.items ++ map change_text (map seen l.place-iterator) ≡ map change_text (map seen l.initial.place-iterator))
