-- What is said of the first node of a path. Clauses of private calls alone cite this.
use Rattle.std.specs.Prelude.{List, [], ◌∷◌, ⊤}
use Rattle.sonic_pointer.specs.Nodes.{node_of}
use Rattle.sonic_pointer.specs.declared.node.PointerNode.{PointerNode}
use Rattle.sonic_text.specs.Paths.{Node}

-- this holds of the first node, if there is one
abbrev pub AtFirst : List PointerNode → (Node → Type 0) → Type 0
AtFirst [] P = ⊤
AtFirst (node ∷ rest) P = P (node_of node)
