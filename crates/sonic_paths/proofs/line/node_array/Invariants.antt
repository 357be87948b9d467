use Rattle.std.proofs.Common.{◌≡◌, ◌-◌, ◌≤◌, length}
use Rattle.sonic_parser.specs.Parsers.{moved}
use Rattle.sonic_pointer.specs.declared.tree.TheConstants.{MAX_NODES}
use Rattle.sonic_paths.specs.Internal.Reading.{IsPathSoFar}
use Rattle.sonic_paths.proofs.line.node_array.Given as goal

abbrev pub invariant-nodes : goal.invariant-nodes
invariant-nodes l = record {
  few : length l.path ≤ MAX_NODES;
  cursor : l.parser ≡ moved l.fn.parser l.parser.place;
  leads : IsPathSoFar l.fn.parser.text l.fn.parser.place l.parser.place l.path;
}

abbrev pub decreases-nodes : goal.decreases-nodes
decreases-nodes l = MAX_NODES - length l.path
