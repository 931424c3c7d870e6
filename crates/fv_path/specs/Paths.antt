-- The lists of nodes that are paths, by which node may stand behind which.
use Rattle.std.specs.Prelude.{◌≡◌, ◌&&◌, List, [], ◌∷◌, Bool, true, false, Option, Some, None}
use Rattle.std.specs.List.{list_all}
use Rattle.fv_path.specs.Nodes.{PathNode, field, index, key, list_element, map_key, map_value, is_node, is_field}

-- a field follows a field, an index or a key
abbrev pub takes_field : PathNode → Bool
takes_field (field _) = true
takes_field (index _) = true
takes_field (key _) = true
takes_field _ = false

-- an index or a key follows a field, a list element or a map value
abbrev pub takes_place : PathNode → Bool
takes_place (field _) = true
takes_place list_element = true
takes_place map_value = true
takes_place _ = false

-- a list element follows an index
abbrev pub takes_element : PathNode → Bool
takes_element (index _) = true
takes_element _ = false

-- a map key or a map value follows a key
abbrev pub takes_entry : PathNode → Bool
takes_entry (key _) = true
takes_entry _ = false

-- the second node may follow the first
abbrev pub may_follow : PathNode → PathNode → Bool
may_follow a (field _) = takes_field a
may_follow a (index _) = takes_place a
may_follow a (key _) = takes_place a
may_follow a list_element = takes_element a
may_follow a map_key = takes_entry a
may_follow a map_value = takes_entry a

-- the node may stand behind the one before it: where there is none, only a field
abbrev pub may_stand : Option PathNode → PathNode → Bool
may_stand None n = is_field n
may_stand (Some a) n = may_follow a n

-- each node may stand behind the one before it, and the first behind the node that is given
abbrev pub is_chain : Option PathNode → List PathNode → Bool
is_chain last [] = true
is_chain last (n ∷ ns) = may_stand last n && is_chain (Some n) ns

-- the nodes are a path
abbrev pub is_path : List PathNode → Bool
is_path ns = is_chain None ns && list_all is_node ns

-- the same as a fact
abbrev pub IsPath : List PathNode → Type 0
IsPath ns = is_path ns ≡ true
