use Rattle.std.proofs.Common.{◌≡◌, map, take}
use Rattle.sonic_pointer.specs.Nodes.{node_of, owned_node}
use Rattle.sonic_pointer.proofs.owned.OwnedPath.nodes.Given as goal

abbrev pub invariant-loop-node : goal.invariant-loop-node
invariant-loop-node l = map node_of l.nodes.items ≡ map owned_node (take l.node-index l.node-items)
