-- What can be wrong with the wording of declarations.
use Rattle.std.specs.Prelude.{◌≡◌, true, Option, Some, None, not, ℕ, List}
use mathlib.Core.Logic.{◌⊎◌}
use Rattle.fv_declare_draft.specs.Drafts.{Drafted}
use Rattle.fv_message.specs.Judged.{IsLarge, IsMisspelt, IsCircular, fits}
use Rattle.fv_message.specs.Table.{all_messages}
use Rattle.fv_message.specs.declared.fault.MessageFault.{MessageFault}
use Rattle.fv_message.specs.declared.fault.MessageFault.TheVariants.{TooLarge, MessageSyntax, MessageCycle, Memory}
use Rattle.fv_declare_judging.specs.Templates.{templates}
use Rattle.std.specs.List.{list_any}
use Rattle.fv_graph.specs.Graph.{IsIn}
use Rattle.fv_message.specs.Template.{IsTemplate}

-- a limit on messages is passed: by a template, or by the messages
abbrev pub IsTooLarge : Drafted → Type 0
IsTooLarge d = (list_any (λ t. not (fits t)) (templates d) ≡ true) ⊎ IsLarge d.messages

-- a template isn't well written, or a message or its key isn't
abbrev pub IsIllWritten : Drafted → Type 0
IsIllWritten d = ((t : List ℕ) × IsIn (templates d) t × (IsTemplate t → ⊥)) ⊎ IsMisspelt d.messages

-- the first fault of a draft's wording, if there is one
abbrev pub IsFirstFault : Drafted → Option MessageFault → Type 0
IsFirstFault d (Some TooLarge) = IsTooLarge d
IsFirstFault d (Some MessageSyntax) = (IsTooLarge d → ⊥) × IsIllWritten d
IsFirstFault d (Some MessageCycle) = (IsTooLarge d → ⊥) × (IsIllWritten d → ⊥) × IsCircular (all_messages d.messages)
IsFirstFault d (Some Memory) = ⊥
IsFirstFault d None = (IsTooLarge d → ⊥) × (IsIllWritten d → ⊥) × (IsCircular (all_messages d.messages) → ⊥)
