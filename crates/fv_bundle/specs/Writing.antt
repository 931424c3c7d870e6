-- The JSON of data that can be written.
use Rattle.std.specs.Prelude.{◌≡◌, true, is_some, unwrap_or}
use Rattle.serde_json.specs.Data as json
use Rattle.fv_datum.specs.Data.{Data}
use Rattle.fv_datum.specs.Written.{written}

-- a datum that can be written: the keys of each map in it are texts in order
abbrev pub IsWritten : Data → Type 0
IsWritten d = is_some (written d) ≡ true

-- a datum's JSON; null for one that can't be written, which no bundle holds
abbrev pub datum_json : Data → json.Data
datum_json d = unwrap_or (written d) json.null
