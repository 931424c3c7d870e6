use Rattle.std.proofs.Common.{take}
use Rattle.std.specs.List.{flat_map}
use Rattle.fv_message.specs.Expanded.{slot_text, GrowsBy}
use Rattle.fv_message.proofs.expansion.Expansion.append.Given as goal

abbrev pub invariant-loop-slot : goal.invariant-loop-slot
invariant-loop-slot l = GrowsBy (λ attributes. flat_map (slot_text attributes) (take l.slot-index l.slot-items)) l.initial.self l.self
