-- The nodes of property paths, without where they lie in memory.
use Rattle.std.specs.Prelude.{ℕ, ◌^◌, List, Bool, true, false, nat_lt}
use Rattle.std.specs.Str.{is_utf8}
use Rattle.fv_datum.specs.Name.{names}

-- a field by its name, an index from 0, a key by its bytes, and the three nodes that name a part of a container
pub data PathNode : Type 0 where
  field : List ℕ → PathNode
  index : ℕ → PathNode
  key : List ℕ → PathNode
  list_element : PathNode
  map_key : PathNode
  map_value : PathNode

-- a field has a name, an index is at most 4294967295, a key is UTF-8
abbrev pub is_node : PathNode → Bool
is_node (field n) = names n
is_node (index i) = nat_lt i (2 ^ 32)
is_node (key k) = is_utf8 k
is_node _ = true

-- the node is a field
abbrev pub is_field : PathNode → Bool
is_field (field _) = true
is_field _ = false

-- the node is an index
abbrev pub is_index : PathNode → Bool
is_index (index _) = true
is_index _ = false

-- the node is a key
abbrev pub is_key : PathNode → Bool
is_key (key _) = true
is_key _ = false

-- the node is a list element, a map key or a map value
abbrev pub is_part : PathNode → Bool
is_part list_element = true
is_part map_key = true
is_part map_value = true
is_part _ = false
