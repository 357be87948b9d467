-- What a kept vertex denotes.
use Rattle.sonic_pointer.specs.Nodes.{owned_node}
use Rattle.sonic_pointer.specs.Internal.Tries.{Entry}
use Rattle.sonic_pointer.specs.declared.vertex.Vertex.TheInside.{Inside}

-- the vertex, but for what it has room for
abbrev pub entry_of : Inside → Entry
entry_of vertex = record { parent = vertex.parent; node = owned_node vertex.node; orders = vertex.orders.items; children = vertex.children }
