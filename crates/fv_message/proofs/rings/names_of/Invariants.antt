use Rattle.std.proofs.Common.{◌≡◌, ◌++◌, map, drop, string_bytes}
use Rattle.fv_message.specs.Whereabouts.{name_at}
use Rattle.fv_message.proofs.rings.names_of.Given as goal

abbrev pub invariant-loop-key : goal.invariant-loop-key
invariant-loop-key l = map string_bytes l.names.items ++ map (name_at l.messages) (drop l.key-index l.keys) ≡ map (name_at l.messages) l.keys
