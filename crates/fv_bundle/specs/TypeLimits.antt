-- The limits of declared types and of data.
use Rattle.std.specs.Prelude.{ℕ}

-- how many types are declared at most
abbrev pub most_types : ℕ
most_types = 256

-- how many fields a type has at most
abbrev pub most_fields : ℕ
most_fields = 256

-- how many containers stand one in another at most
abbrev pub most_nested : ℕ
most_nested = 4

-- how many bytes a text or a map's key has at most
abbrev pub longest_text : ℕ
longest_text = 65536

-- how many items a list has at most, and entries a map
abbrev pub most_entries : ℕ
most_entries = 65536
