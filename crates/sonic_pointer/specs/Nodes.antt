-- Nodes of a path, as texts and trees have them, and the order that the children of a tree are in.
use Rattle.std.specs.Prelude.{Bool, true, false, List, map, string_bytes}
use Rattle.sonic_text.specs.Paths.{Node, key, index}
use Rattle.sonic_pointer.specs.declared.node.PointerNode.{PointerNode}
use Rattle.sonic_pointer.specs.declared.node.PointerNode.TheVariants.{Key, Index}
use Rattle.sonic_pointer.specs.declared.owned.OwnedNode.{OwnedNode}
use Rattle.sonic_pointer.specs.declared.owned.OwnedNode.TheVariants as owned

-- what a node of the program is: the bytes of a key, or an index
abbrev pub node_of : PointerNode → Node
node_of (Key text) = key text.now
node_of (Index number) = index number

-- what a node that owns its key is
abbrev pub owned_node : OwnedNode → Node
owned_node (owned.Key text) = key (string_bytes text)
owned_node (owned.Index number) = index number

-- the node is a key
abbrev pub is_key : Node → Bool
is_key (key bytes) = true
is_key (index number) = false

-- what the nodes of a path of the program are
abbrev pub path_of : List PointerNode → List Node
path_of path = map node_of path
