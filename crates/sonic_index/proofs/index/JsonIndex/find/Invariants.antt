use Rattle.std.proofs.Common.{drop}
use Rattle.sonic_pointer.specs.Nodes.{path_of}
use Rattle.sonic_index.specs.Internal.Items.{IsReachedBy}
use Rattle.sonic_index.proofs.index.JsonIndex.find.Given as goal

abbrev pub invariant-loop-node : goal.invariant-loop-node
invariant-loop-node l = IsReachedBy l.text l.cells (path_of l.path) (path_of (drop l.node-index l.path)) l.at
