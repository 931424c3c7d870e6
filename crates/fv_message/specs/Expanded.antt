-- What keys' texts become but for attributes.
use Rattle.std.specs.Prelude.{◌≡◌, ◌<◌, ℕ, List, [], ◌∷◌, ◌++◌, length, slice_index_or, string_bytes}
use Rattle.std.specs.List.{flat_map}
use Rattle.fv_datum.specs.Attributes.{Attributes}
use Rattle.fv_graph.specs.Graph.{IsIn}
use Rattle.fv_message.specs.Template.{Piece, plain, parameter}
use Rattle.fv_message.specs.Table.{Messages}
use Rattle.fv_message.specs.Full.{shown}
use Rattle.fv_message.specs.Evaluated.{key_text}
use Rattle.fv_message.specs.declared.expansion.Slot.{Slot}
use Rattle.fv_message.specs.declared.expansion.Expansion.{Expansion}

-- what a piece becomes by attributes alone
abbrev pub shown_piece : Attributes → Piece → List ℕ
shown_piece attributes (plain b) = b ∷ []
shown_piece attributes (parameter name) = shown attributes name

-- what pieces become by attributes alone
abbrev pub shown_pieces : Attributes → List Piece → List ℕ
shown_pieces attributes ps = flat_map (shown_piece attributes) ps

-- what a slot becomes by attributes: the plain text in front of a parameter, and what stands for the parameter
abbrev pub slot_text : Attributes → Slot → List ℕ
slot_text attributes slot = string_bytes slot.before ++ shown attributes (string_bytes slot.name)

-- what an expansion becomes by attributes
abbrev pub expansion_text : Attributes → Expansion → List ℕ
expansion_text attributes e = flat_map (slot_text attributes) e.slots.items ++ string_bytes e.rest

-- an expansion that becomes what a key's text becomes, whatever the attributes are
abbrev pub IsExpansion : Messages → ℕ → Expansion → Type 0
IsExpansion ms i e = (attributes : Attributes) → expansion_text attributes e ≡ key_text ms attributes i

-- the new expansion becomes what the old one becomes, and more behind it
abbrev pub GrowsBy : (Attributes → List ℕ) → Expansion → Expansion → Type 0
GrowsBy more old new =
    (attributes : Attributes) → expansion_text attributes new ≡ expansion_text attributes old ++ more attributes

-- such an expansion for each of some keys
abbrev pub AreExpanded : Messages → List ℕ → List Expansion → Type 0
AreExpanded ms keys es =
    (i : ℕ) → IsIn keys i → (i < length es) × ((d : Expansion) → IsExpansion ms i (slice_index_or es i d))

-- such an expansion for each key
abbrev pub AreExpansions : Messages → List Expansion → Type 0
AreExpansions ms es =
    (length es ≡ length ms) × ((i : ℕ) (d : Expansion) → i < length ms → IsExpansion ms i (slice_index_or es i d))
