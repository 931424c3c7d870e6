-- The nodes that a `Node` stands for.
use Rattle.std.specs.Prelude.{string_bytes}
use Rattle.fv_path.specs.Nodes.{PathNode, field, index, key, list_element, map_key, map_value}
use Rattle.fv_path.specs.declared.node.Node.{Node}
use Rattle.fv_path.specs.declared.node.Node.TheVariants.{Field, Index, Key, ListElement, MapKey, MapValue}

-- the node that a `Node` stands for
abbrev pub node_view : Node → PathNode
node_view (Field n) = field n
node_view (Index i) = index i
node_view (Key s) = key (string_bytes s)
node_view ListElement = list_element
node_view MapKey = map_key
node_view MapValue = map_value
