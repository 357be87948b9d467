use Rattle.std.proofs.Common.{◌≡◌, map, take}
use Rattle.sonic_edits.specs.Internal.Parted.{nodes_of}
use Rattle.sonic_edits.proofs.all.lent.Given as goal

abbrev pub invariant-loop-path : goal.invariant-loop-path
invariant-loop-path l = map nodes_of l.lists.items ≡ take l.path-index l.paths
