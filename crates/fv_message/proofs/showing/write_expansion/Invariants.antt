use Rattle.std.proofs.Common.{◌≡◌, ◌++◌, take, string_bytes}
use Rattle.std.specs.List.{flat_map}
use Rattle.fv_message.specs.Expanded.{slot_text}
use Rattle.fv_message.proofs.showing.write_expansion.Given as goal

abbrev pub invariant-loop-slot : goal.invariant-loop-slot
invariant-loop-slot l = string_bytes l.text ≡ string_bytes l.initial.text ++ flat_map (slot_text l.attributes) (take l.slot-index l.slot-items)
