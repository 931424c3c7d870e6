-- The paths of the parts of an object.
use Rattle.std.specs.Prelude.{ℕ, List, [], ◌∷◌, slice_get}
use Rattle.std.specs.Option.{option_map_or}
use Rattle.fv_extract.specs.Parts.{Locus, at_index, at_key}
use Rattle.fv_extract.specs.Places as to
use Rattle.fv_bundle.specs.Bundles.{Thing}
use Rattle.fv_path.specs.Nodes.{PathNode, index, key, list_element, map_key, map_value}

-- the nodes from a field to a part of its datum, by the steps to it and its locus: the index of an element and that it is one, the key in
-- front of a map's key or value and which of them it is; the content of an optional adds nothing
abbrev pub nodes_of : List to.PlaceStep → Locus → List PathNode
nodes_of (to.element ∷ steps) (at_index i ∷ l) = index i ∷ list_element ∷ nodes_of steps l
nodes_of (to.key ∷ steps) (at_key k ∷ l) = key k ∷ map_key ∷ nodes_of steps l
nodes_of (to.value ∷ steps) (at_key k ∷ l) = key k ∷ map_value ∷ nodes_of steps l
nodes_of (to.content ∷ steps) l = nodes_of steps l
nodes_of _ _ = []

-- the name of the field of that number
abbrev pub field_name : Thing → ℕ → List ℕ
field_name object number = option_map_or (λ f. f.0) (slice_get object.fields number) []
