-- Messages as they are written.
use Rattle.std.specs.Prelude.{ℕ, List, Option, option_map}
use Rattle.serde_json.specs.Data as json
use Rattle.serde_json.specs.Find.{as_str}

-- a key with the template that stands for it
abbrev pub message_draft_of : List ℕ × json.Data → Option (List ℕ × List ℕ)
message_draft_of m = option_map (λ template. (m.0, template)) (as_str m.1)
