-- The JSON value that bytes are.
use Rattle.std.specs.Prelude.{ℕ, List, Option, None, if◌then◌else◌}
use Rattle.std.specs.Str.{is_utf8}
use Rattle.serde_json.specs.Data as json
use Rattle.serde_json.specs.Read.{read}

-- the JSON value that bytes spell, none where they aren't UTF-8 or aren't JSON
abbrev pub json_of : List ℕ → Option json.Data
json_of bytes = if is_utf8 bytes then read bytes else None
