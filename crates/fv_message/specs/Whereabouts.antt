-- Where messages have a fault.
use Rattle.std.specs.Prelude.{◌≡◌, ◌<◌, ℕ, List, [], ◌∷◌, ◌++◌, length, IsTrue, true, false, not, nat_lt, if◌then◌else◌, Option, Some, None, option_map, is_some, slice_get, MatchOption}
use Rattle.std.specs.Option.{option_map_or}
use mathlib.Core.Logic.{◌⊎◌}
use Rattle.fv_first.specs.First.{first_where, first_of, IsFirstIn}
use Rattle.fv_message.specs.Template.{IsTemplate, is_parameter_name}
use Rattle.fv_message.specs.Table.{Messages, all_messages}
use Rattle.fv_message.specs.Full.{IsFullText}
use Rattle.fv_message.specs.Judged.{fits, HasParameter, IsCircular}
use Rattle.fv_message.specs.declared.fault.MessageFault.{MessageFault}
use Rattle.fv_message.specs.declared.fault.MessageFault.TheVariants.{TooLarge, MessageSyntax}
use Rattle.fv_message.specs.declared.fault.MessagesAt.{MessagesAt}
use Rattle.fv_message.specs.declared.fault.MessagesAt.TheVariants as at

-- ---- a limit

-- the first of the texts that is too long for a template
abbrev pub first_long : Messages → Option ℕ
first_long user = first_where (λ m. not (fits m.1)) user

-- too many messages, else the first text that is too long for a template
abbrev pub large_in : Messages → Option MessagesAt
large_in user = first_of ((if nat_lt 1024 (length user) then Some at.Messages else None) ∷ option_map at.Text (first_long user) ∷ [])

-- the text of the key of a number becomes too long, with no attributes
abbrev pub IsLongAt : Messages → ℕ → Type 0
IsLongAt ms i =
    (m : List ℕ × List ℕ) × (slice_get ms i ≡ Some m) × (full : List ℕ) × IsFullText ms [] m.1 full × (65536 < length full)

-- a key, by its number among all messages, whose text becomes too long
abbrev pub IsFullAt : Messages → Option MessagesAt → Type 0
IsFullAt ms found = (i : ℕ) × (found ≡ Some (at.Full i)) × IsLongAt ms i

-- too many messages, else the first text that is too long for a template, else a key whose text becomes too long
abbrev pub IsLargeAt : Messages → Option MessagesAt → Type 0
IsLargeAt user found =
    ((found ≡ large_in user) × IsTrue (is_some found)) ⊎ ((large_in user ≡ None) × IsFullAt (all_messages user) found)

-- ---- how messages are written

-- a message's key, told by its number, where it is no parameter's name, else its text where that is no template
abbrev pub IsMisspeltAt : ℕ → List ℕ × List ℕ → Option MessagesAt → Type 0
IsMisspeltAt n m found =
    ((is_parameter_name m.0 ≡ false) × (found ≡ Some (at.Key n)))
    ⊎ ((is_parameter_name m.0 ≡ true) × MatchOption found (IsTemplate m.1) (λ p. (p ≡ at.Text n) × (IsTemplate m.1 → ⊥)))

-- the first message that isn't well written
abbrev pub IsMisspeltIn : Messages → Option MessagesAt → Type 0
IsMisspeltIn user found = IsFirstIn IsMisspeltAt user found

-- ---- the places

-- where the user's messages have a fault; a cycle of keys is told by itself
abbrev pub IsAt : Messages → MessageFault → Option MessagesAt → Type 0
IsAt user TooLarge found = IsLargeAt user found
IsAt user MessageSyntax found = IsMisspeltIn user found × IsTrue (is_some found)
IsAt user _ found = found ≡ None

-- ---- cycles of keys

-- the key of a number; empty where there is none
abbrev pub name_at : Messages → ℕ → List ℕ
name_at ms i = option_map_or (λ m. m.0) (slice_get ms i) []

-- keys of which the text of each has the next as a parameter
abbrev pub AreLinked : Messages → List (List ℕ) → Type 0
AreLinked ms [] = Unit {0}
AreLinked ms (k ∷ []) = Unit {0}
AreLinked ms (k ∷ l ∷ ls) = HasParameter ms k l × AreLinked ms (l ∷ ls)

-- keys of which the text of each has the next as a parameter, and that of the last the first
abbrev pub IsKeyRing : Messages → List (List ℕ) → Type 0
IsKeyRing ms [] = ⊥
IsKeyRing ms (k ∷ ks) = AreLinked ms (k ∷ ks ++ k ∷ [])

-- such keys exactly where some key's text leads back to that key
abbrev pub IsRingOf : Messages → Option (List (List ℕ)) → Type 0
IsRingOf ms found = MatchOption found (IsCircular ms → ⊥) (λ names. IsCircular ms × IsKeyRing ms names)
