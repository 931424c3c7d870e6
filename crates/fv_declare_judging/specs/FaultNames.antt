-- The names and codes of the faults of declarations.
use Rattle.std.specs.Prelude.{ℕ, List, [], codes}
use Rattle.fv_declare_judging.specs.declared.fault.DeclFault.{DeclFault}
use Rattle.fv_declare_judging.specs.declared.fault.DeclFault.TheVariants.{NotJson, Shape, BadName, UnknownName, UnknownGroup, CyclicInheritance, CyclicSequence, SequenceMisused, SequenceLacksType, DefaultInTypeSequence, ConversionMisplaced, CyclicComposition, EmptyConstraint, TooLarge, UnknownRule, Attribute, UnexpectedType, BadPattern, MessageSyntax, MessageCycle, Memory}
use Rattle.fv_flatten.specs.declared.fault.FlattenFault.{FlattenFault}
use Rattle.fv_flatten.specs.declared.fault.FlattenFault.TheVariants as flat
use Rattle.fv_declare_groups.specs.declared.fault.GroupingFault.{GroupingFault}
use Rattle.fv_declare_groups.specs.declared.fault.GroupingFault.TheVariants as group
use Rattle.fv_message.specs.declared.fault.MessageFault.{MessageFault}
use Rattle.fv_message.specs.declared.fault.MessageFault.TheVariants as message

-- the name of a fault of declarations
abbrev pub decl_fault_name : DeclFault → List ℕ
decl_fault_name NotJson = codes "NotJson"
decl_fault_name Shape = codes "Shape"
decl_fault_name BadName = codes "BadName"
decl_fault_name UnknownName = codes "UnknownName"
decl_fault_name UnknownGroup = codes "UnknownGroup"
decl_fault_name CyclicInheritance = codes "CyclicInheritance"
decl_fault_name CyclicSequence = codes "CyclicSequence"
decl_fault_name SequenceMisused = codes "SequenceMisused"
decl_fault_name SequenceLacksType = codes "SequenceLacksType"
decl_fault_name DefaultInTypeSequence = codes "DefaultInTypeSequence"
decl_fault_name ConversionMisplaced = codes "ConversionMisplaced"
decl_fault_name CyclicComposition = codes "CyclicComposition"
decl_fault_name EmptyConstraint = codes "EmptyConstraint"
decl_fault_name TooLarge = codes "TooLarge"
decl_fault_name UnknownRule = codes "UnknownRule"
decl_fault_name Attribute = codes "Attribute"
decl_fault_name UnexpectedType = codes "UnexpectedType"
decl_fault_name BadPattern = codes "BadPattern"
decl_fault_name MessageSyntax = codes "MessageSyntax"
decl_fault_name MessageCycle = codes "MessageCycle"
decl_fault_name Memory = codes "Memory"

-- a fault's code, none for want of memory
abbrev pub decl_fault_code : DeclFault → List ℕ
decl_fault_code NotJson = codes "F1"
decl_fault_code Shape = codes "F2"
decl_fault_code BadName = codes "F3"
decl_fault_code UnknownName = codes "F4"
decl_fault_code UnknownGroup = codes "F5"
decl_fault_code CyclicInheritance = codes "F6"
decl_fault_code CyclicSequence = codes "F7"
decl_fault_code SequenceMisused = codes "F8"
decl_fault_code SequenceLacksType = codes "F9"
decl_fault_code DefaultInTypeSequence = codes "F10"
decl_fault_code ConversionMisplaced = codes "F11"
decl_fault_code CyclicComposition = codes "F12"
decl_fault_code EmptyConstraint = codes "F13"
decl_fault_code TooLarge = codes "F14"
decl_fault_code UnknownRule = codes "F15"
decl_fault_code Attribute = codes "F16"
decl_fault_code UnexpectedType = codes "F17"
decl_fault_code BadPattern = codes "F18"
decl_fault_code MessageSyntax = codes "F19"
decl_fault_code MessageCycle = codes "F20"
decl_fault_code Memory = []

-- the fault of declarations that a fault of groups is
abbrev pub grouping_fault : GroupingFault → DeclFault
grouping_fault group.UnknownGroup = UnknownGroup
grouping_fault group.CyclicInheritance = CyclicInheritance
grouping_fault group.CyclicSequence = CyclicSequence
grouping_fault group.SequenceMisused = SequenceMisused
grouping_fault group.SequenceLacksType = SequenceLacksType
grouping_fault group.DefaultInTypeSequence = DefaultInTypeSequence
grouping_fault group.ConversionMisplaced = ConversionMisplaced
grouping_fault group.Memory = Memory

-- the fault of declarations that a fault of flattening is
abbrev pub flatten_fault : FlattenFault → DeclFault
flatten_fault flat.CyclicComposition = CyclicComposition
flatten_fault flat.EmptyConstraint = EmptyConstraint
flatten_fault flat.TooLarge = TooLarge
flatten_fault flat.UnknownRule = UnknownRule
flatten_fault flat.Attribute = Attribute
flatten_fault flat.UnexpectedType = UnexpectedType
flatten_fault flat.BadPattern = BadPattern
flatten_fault flat.Memory = Memory

-- the fault of declarations that a fault of messages is
abbrev pub message_fault : MessageFault → DeclFault
message_fault message.TooLarge = TooLarge
message_fault message.MessageSyntax = MessageSyntax
message_fault message.MessageCycle = MessageCycle
message_fault message.Memory = Memory
