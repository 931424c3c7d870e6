-- The messages that contracts see.
use Rattle.std.specs.Prelude.{ℕ, List, map, String, string_bytes}
use Rattle.std.specs.Borrow.{Bor}
use Rattle.std.specs.HashMap.{HashMap}
use Rattle.std.specs.declared.alloc.Global.{Global}
use Rattle.std.specs.declared.hash.FoldHasher.{FoldHasher}
use Rattle.std.specs.declared.hash.BuildHasherDefault.{BuildHasherDefault}
use Rattle.fv_message.specs.Table.{Messages}

-- a key with its text
abbrev pub message_view : String Global × String Global → List ℕ × List ℕ
message_view m = (string_bytes m.0, string_bytes m.1)

-- the messages of a map, in its order
abbrev pub messages_view : HashMap (String Global) (String Global) (BuildHasherDefault FoldHasher) → Messages
messages_view m = map message_view m.entries

-- a built-in constraint's name with the text of its message
abbrev pub row_view : Bor (List ℕ) × Bor (List ℕ) → List ℕ × List ℕ
row_view row = (row.0.now, row.1.now)
