use Rattle.std.proofs.Common.{◌∷◌, flat_map}
use Rattle.std.specs.Fmt.{HasWritten, IsPlainFormatter}
use Rattle.fv_explain_faults.specs.Quoted.{quoted_character}
use Rattle.fv_explain_faults.proofs.shown.write_quoted.Given as goal

-- so far the first quotation mark is written, and each character
abbrev pub invariant-loop-character : goal.invariant-loop-character
invariant-loop-character g l =
    IsPlainFormatter l.fn.f → HasWritten g.W.Write.write_str_gives l.fn.f (34 ∷ flat_map quoted_character l.yielded) l.f
