use Rattle.std.proofs.Common.{◌≡◌, ◌-◌, ◌+◌, ◌≤◌, length, map, drop, vec_len, vec_capacity}
use Rattle.sonic_pointer.specs.Nodes.{owned_node}
use Rattle.sonic_pointer.specs.Internal.Tries.{parent_of}
use Rattle.sonic_pointer.proofs.ChainLemmas.{IsGrown}
use Rattle.sonic_pointer.proofs.insert.push_chain.Given as goal

abbrev pub invariant-nodes : goal.invariant-nodes
invariant-nodes l = record {
  rest : l.node-iterator.rest.items ≡ drop l.above l.fn.nodes.items;
  within : l.above ≤ length l.fn.nodes.items;
  grown : IsGrown l.number l.point.at l.point.depth (map owned_node l.fn.nodes.items) l.fn.vertices.items l.vertices.items l.above;
  parent : l.parent ≡ parent_of l.point.at (length l.fn.vertices.items + 1) (l.above - l.point.depth);
  room : vec_len l.fn.vertices + (length l.fn.nodes.items - l.point.depth) ≤ vec_capacity l.vertices;
}
