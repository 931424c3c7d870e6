-- The names of faults.
use Rattle.std.specs.Prelude.{ℕ, List, codes}
use Rattle.fv_message.specs.declared.fault.MessageFault.{MessageFault}
use Rattle.fv_message.specs.declared.fault.MessageFault.TheVariants.{TooLarge, MessageSyntax, MessageCycle, Memory}

-- the name of a fault of messages
abbrev pub message_fault_name : MessageFault → List ℕ
message_fault_name TooLarge = codes "TooLarge"
message_fault_name MessageSyntax = codes "MessageSyntax"
message_fault_name MessageCycle = codes "MessageCycle"
message_fault_name Memory = codes "Memory"
