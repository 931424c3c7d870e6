use Rattle.std.proofs.Common.{◌≡◌, ◌++◌, ℕ, List, map}
use Rattle.std.specs.Fmt.{HasWritten, IsPlainFormatter}
use Rattle.fv_datum.specs.Attributes.{entry_view}
use Rattle.fv_explain.specs.Attributes.{attributes_text}
use Rattle.fv_explain.proofs.lines.AttributesDisplay.fmt.Given as goal

-- what is written, and the attributes that are left, make all
abbrev pub invariant-loop-name : goal.invariant-loop-name
invariant-loop-name g l =
    IsPlainFormatter l.initial.f
    → (text : List ℕ) × HasWritten g.W.Write.write_str_gives l.initial.f text l.f
    × (text ++ attributes_text (map entry_view l.name-iterator) ≡ attributes_text l.self.0.now)
