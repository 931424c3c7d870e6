-- Why messages aren't taken.
use Rattle.std.specs.Prelude.{◌≡◌, ◌<◌, ℕ, zero, suc, List, [], length, Bool, true, false, Some, not, nat_le}
use Rattle.std.specs.List.{list_any}
use mathlib.Core.Logic.{◌⊎◌}
use Rattle.fv_datum.specs.Lookup.{at_name}
use Rattle.fv_graph.specs.Graph.{IsIn}
use Rattle.fv_message.specs.Template.{Piece, parameter, SpellsPieces, IsTemplate, is_parameter_name}
use Rattle.fv_message.specs.Table.{Messages, all_messages}
use Rattle.fv_message.specs.Full.{IsFullText}
use Rattle.fv_message.specs.declared.fault.MessageFault.{MessageFault}
use Rattle.fv_message.specs.declared.fault.MessageFault.TheVariants.{TooLarge, MessageSyntax, MessageCycle, Memory}

-- a template is short enough: at most 4096 bytes, as it is written
abbrev pub fits : List ℕ → Bool
fits template = nat_le (length template) 4096

-- one of the texts is too long for a template
abbrev pub has_long_text : Messages → Bool
has_long_text user = list_any (λ m. not (fits m.1)) user

-- some message's text becomes too long, with no attributes: more than 65536 bytes
abbrev pub HasLongKey : Messages → Type 0
HasLongKey ms =
    (m : List ℕ × List ℕ) × IsIn ms m × (full : List ℕ) × IsFullText ms [] m.1 full × (65536 < length full)

-- some message's text is no template, or its key is no parameter's name
abbrev pub IsMisspelt : Messages → Type 0
IsMisspelt user =
    (m : List ℕ × List ℕ) × IsIn user m × ((IsTemplate m.1 → ⊥) ⊎ (is_parameter_name m.0 ≡ false))

-- a key's text has a parameter of that name
abbrev pub HasParameter : Messages → List ℕ → List ℕ → Type 0
HasParameter ms key name =
    (template : List ℕ) × (ps : List Piece) × (at_name key ms ≡ Some template) × SpellsPieces ps template × IsIn ps (parameter name)

-- a key's text leads to a parameter of that name, through so many other keys
abbrev pub LeadsAmong : Messages → ℕ → List ℕ → List ℕ → Type 0
LeadsAmong ms zero key name = HasParameter ms key name
LeadsAmong ms (suc more) key name = (next : List ℕ) × HasParameter ms key next × LeadsAmong ms more next name

-- some key's text leads back to that key
abbrev pub IsCircular : Messages → Type 0
IsCircular ms = (key : List ℕ) × (more : ℕ) × LeadsAmong ms more key key

-- a limit is passed: there are more than 1024 messages, or a text is too long for a template, or becomes too long
abbrev pub IsLarge : Messages → Type 0
IsLarge user = (1024 < length user) ⊎ (list_any (λ m. not (fits m.1)) user ≡ true) ⊎ HasLongKey (all_messages user)

-- the user's messages within the limits, with texts that are templates, and no key whose text leads back to it
pub record AreSound (user : Messages) : Type 0 where
  pub small : IsLarge user → ⊥
  pub spelt : IsMisspelt user → ⊥
  pub no_cycle : IsCircular (all_messages user) → ⊥

-- the first fault of the user's messages; want of memory may come at any place
abbrev pub IsFault : Messages → MessageFault → Type 0
IsFault user TooLarge = IsLarge user
IsFault user MessageSyntax = (IsLarge user → ⊥) × IsMisspelt user
IsFault user MessageCycle = (IsLarge user → ⊥) × (IsMisspelt user → ⊥) × IsCircular (all_messages user)
IsFault user Memory = Unit {0}
