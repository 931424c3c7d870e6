-- Messages by their keys.
use Rattle.std.specs.Prelude.{ℕ, List, [], ◌∷◌, ◌++◌, is_some, fold, if◌then◌else◌}
use Rattle.fv_datum.specs.Lookup.{at_name}
use Rattle.fv_message.specs.BuiltIn.{built_in_messages}

-- keys with their texts
abbrev pub Messages : Type 0
Messages = List (List ℕ × List ℕ)

-- messages with one more, unless its key has a text
abbrev pub with_message : Messages → List ℕ × List ℕ → Messages
with_message ms m = if is_some (at_name m.0 ms) then ms else ms ++ m ∷ []

-- all messages: the user's, and the built-in ones whose keys the user gives no text
abbrev pub all_messages : Messages → Messages
all_messages user = fold (λ ms m. if is_some (at_name m.0 ms) then ms else ms ++ m ∷ []) user built_in_messages
