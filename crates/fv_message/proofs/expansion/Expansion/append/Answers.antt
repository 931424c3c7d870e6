use Rattle.std.proofs.Common.{◌++◌, take, arith}
use Rattle.std.specs.List.{flat_map}
use Rattle.fv_message.specs.Expanded.{slot_text, expansion_text}
use Rattle.fv_message.proofs.Expansions.{onward, grows_more, grows_same, slots_all}
use Rattle.fv_message.proofs.expansion.Expansion.append.Goals as goal

pub returns : goal.returns
returns c =
    let items = c.deref-slot-items.result.now in
    let i = c.loop-slot.slot-index in
    let rest = c.as_str-2.result.now in
    onward c.push_plain-2.result
    (λ grown.
    grows_same (λ attributes. flat_map (slot_text attributes) (take i items) ++ rest) (λ attributes. expansion_text attributes c.args.other.now) c.args.self.now c.push_plain-2.new.self
    (λ attributes k. slots_all attributes items c.args.other.now.slots.items i (omega arith) c.deref-slot-items.ensures.value k ++ c.as_str-2.ensures.value k)
    (grows_more (λ attributes. flat_map (slot_text attributes) (take i items)) (λ _. rest) c.args.self.now c.loop-slot.self c.push_plain-2.new.self c.loop-slot.invariant grown))
    c.push_plain-2.ensures
