-- Why messages aren't taken, told of numbered messages; for private functions.
use Rattle.std.specs.Prelude.{◌≡◌, ℕ, List, Bool, IsTrue, true, false, not, ◌||◌, if◌then◌else◌, Option, Some, None, is_some}
use Rattle.std.specs.List.{list_any}
use Rattle.fv_first.specs.First.{first_in}
use Rattle.fv_message.specs.Template.{is_parameter_name}
use Rattle.fv_message.specs.Reading.{is_template}
use Rattle.fv_message.specs.Table.{Messages}
use Rattle.fv_message.specs.Judged.{HasLongKey, IsCircular}
use Rattle.fv_message.specs.declared.fault.MessageFault.{MessageFault}
use Rattle.fv_message.specs.declared.fault.MessageFault.TheVariants.{TooLarge, MessageSyntax, MessageCycle, Memory}
use Rattle.fv_message.specs.declared.fault.MessagesAt.{MessagesAt}
use Rattle.fv_message.specs.declared.fault.MessagesAt.TheVariants as at
use Rattle.fv_message.specs.Whereabouts.{IsFullAt}

-- one of the texts is no template, or one of the keys is no parameter's name
abbrev pub is_misspelt : Messages → Bool
is_misspelt user = list_any (λ m. not (is_template m.1) || not (is_parameter_name m.0)) user

-- where that is in a message of a number: its key, else its text
abbrev pub misspelt_at : ℕ → List ℕ × List ℕ → Option MessagesAt
misspelt_at n m =
    if not (is_parameter_name m.0) then Some (at.Key n) else if not (is_template m.1) then Some (at.Text n) else None

-- the first such place
abbrev pub misspelt_in : Messages → Option MessagesAt
misspelt_in user = first_in misspelt_at user

-- numbered messages of which no key's text becomes too long or leads back to the key, and which aren't misspelt
pub record AreWhole (ms : Messages) (misspelt : Bool) : Type 0 where
  pub small : HasLongKey ms → ⊥
  pub spelt : misspelt ≡ false
  pub no_cycle : IsCircular ms → ⊥

-- the first fault of numbered messages
abbrev pub IsFaultOf : Messages → Bool → MessageFault → Type 0
IsFaultOf ms misspelt TooLarge = HasLongKey ms
IsFaultOf ms misspelt MessageSyntax = (HasLongKey ms → ⊥) × (misspelt ≡ true)
IsFaultOf ms misspelt MessageCycle = (HasLongKey ms → ⊥) × (misspelt ≡ false) × IsCircular ms
IsFaultOf ms misspelt Memory = Unit {0}

-- where numbered messages have a fault, from where they are misspelt
abbrev pub IsFoundAt : Messages → Option MessagesAt → MessageFault → Option MessagesAt → Type 0
IsFoundAt ms misspelt TooLarge found = IsFullAt ms found
IsFoundAt ms misspelt MessageSyntax found = (found ≡ misspelt) × IsTrue (is_some found)
IsFoundAt ms misspelt _ found = found ≡ None
