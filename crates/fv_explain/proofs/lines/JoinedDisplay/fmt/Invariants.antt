use Rattle.std.proofs.Common.{◌++◌, take}
use Rattle.std.specs.Fmt.{HasWritten, IsPlainFormatter}
use Rattle.std.specs.List.{flat_map}
use Rattle.fv_explain.specs.Lines.{names_in}
use Rattle.fv_explain.proofs.lines.JoinedDisplay.fmt.Given as goal

-- so far each other name is written behind the words
abbrev pub invariant-loop-other : goal.invariant-loop-other
invariant-loop-other g l =
    IsPlainFormatter l.initial.f
    → HasWritten g.W.Write.write_str_gives l.initial.f (flat_map (λ n. l.self.1.now ++ n) (names_in (take l.other-index l.others))) l.f
