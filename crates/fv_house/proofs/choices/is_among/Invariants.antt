use Rattle.std.proofs.Common.{◌≡◌, drop, map, string_bytes}
use Rattle.fv_house.specs.Words.{is_among}
use Rattle.fv_house.proofs.choices.is_among.Given as goal

abbrev pub invariant-loop-word : goal.invariant-loop-word
invariant-loop-word l = is_among l.text (map string_bytes (drop l.word-index l.words)) ≡ is_among l.text (map string_bytes l.words)
