use Rattle.std.proofs.Common.{◌≡◌, map, take}
use Rattle.sonic_pointer.specs.Nodes.{node_of, owned_node}
use Rattle.sonic_pointer.proofs.owned.OwnedPath.from_nodes.Given as goal

abbrev pub invariant-loop-node : goal.invariant-loop-node
invariant-loop-node l = map owned_node l.nodes.items ≡ map node_of (take l.node-index l.path)
