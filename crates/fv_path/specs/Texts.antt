-- The texts of paths.
use Rattle.std.specs.Prelude.{ℕ, List, [], ◌∷◌, ◌++◌, codes, decimal, drop, flat_map}
use Rattle.json.specs.Print.{quoted}
use Rattle.fv_path.specs.Nodes.{PathNode, field, index, key, list_element, map_key, map_value}

-- the text of a node: a dot and the name of a field, the decimal digits of an index in brackets, the compact JSON
-- string of a key in brackets
abbrev pub node_text : PathNode → List ℕ
node_text (field n) = 46 ∷ n
node_text (index i) = 91 ∷ (decimal i ++ 93 ∷ [])
node_text (key k) = 91 ∷ (quoted k ++ 93 ∷ [])
node_text list_element = codes ".<list element>"
node_text map_key = codes ".<map key>"
node_text map_value = codes ".<map value>"

-- the texts of the nodes one behind the other
abbrev pub nodes_text : List PathNode → List ℕ
nodes_text = flat_map node_text

-- the text of a path: that of its nodes, without the dot of the first, which is a field
abbrev pub path_text_of : List PathNode → List ℕ
path_text_of ns = drop 1 (flat_map node_text ns)
