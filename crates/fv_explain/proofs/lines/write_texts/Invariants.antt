use Rattle.std.proofs.Common.{◌++◌, codes, map, string_bytes, take}
use Rattle.std.specs.Fmt.{HasWritten, IsPlainFormatter}
use Rattle.std.specs.List.{flat_map}
use Rattle.fv_explain_faults.specs.Quoted.{quoted}
use Rattle.fv_explain.proofs.lines.write_texts.Given as goal

-- so far each other text is written behind a comma
abbrev pub invariant-loop-other : goal.invariant-loop-other
invariant-loop-other g l =
    IsPlainFormatter l.initial.f
    → HasWritten g.W.Write.write_str_gives l.initial.f (flat_map (λ t. codes "," ++ quoted t) (map string_bytes (take l.other-index l.others))) l.f
