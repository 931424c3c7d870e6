-- Names, as they are written.
use Rattle.std.specs.Prelude.{ℕ, List, [], Option}
use Rattle.serde_json.specs.Data as json
use Rattle.serde_json.specs.Find.{as_str}
use Rattle.fv_datum.specs.Forms.{optional, each_item}

-- names: an array of texts
abbrev pub names_in : json.Data → Option (List (List ℕ))
names_in = each_item as_str

-- the names by the member of that name, which may be missing
abbrev pub names_of : List ℕ → json.Data → Option (List (List ℕ))
names_of = optional [] names_in
