-- The keys as a graph, and how long their texts become.
use Rattle.std.specs.Prelude.{◌≡◌, ◌<◌, ◌+◌, ℕ, List, [], ◌∷◌, length, if◌then◌else◌, Vec}
use Rattle.std.specs.declared.alloc.Global.{Global}
use Rattle.fv_graph.specs.Graph.{next_of}
use Rattle.fv_message.specs.Template.{Piece, plain, parameter}
use Rattle.fv_message.specs.Reading.{pieces, is_template}
use Rattle.fv_message.specs.Table.{Messages}
use Rattle.fv_message.specs.Numbers.{is_key, text_at, next_keys}

-- the keys that a key's text leads to; the key itself where its text is no template, so that it meets a cycle
abbrev pub edges_at : Messages → ℕ → List ℕ
edges_at ms i = if is_template (text_at ms i) then next_keys ms i else i ∷ []

-- the graph of keys, as lists
abbrev pub AreEdgesOf : Messages → List (Vec ℕ Global) → Type 0
AreEdgesOf ms edges = (length edges ≡ length ms) × ((i : ℕ) → i < length ms → next_of edges i ≡ edges_at ms i)

-- how many bytes pieces become, with no attributes and without those of keys
abbrev pub own_bytes : Messages → List Piece → ℕ
own_bytes ms [] = 0
own_bytes ms (plain b ∷ ps) = 1 + own_bytes ms ps
own_bytes ms (parameter name ∷ ps) = (if is_key ms name then 0 else length name + 2) + own_bytes ms ps

-- the same of a key's text
abbrev pub own_len : Messages → ℕ → ℕ
own_len ms i = own_bytes ms (pieces (text_at ms i))
