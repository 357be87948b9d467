use Rattle.std.proofs.Common.{◌≡◌, map, take}
use Rattle.sonic_patch.specs.Internal.Marks.{second}
use Rattle.sonic_patch.proofs.marks.elements.Given as goal

abbrev pub invariant-loop-pair : goal.invariant-loop-pair
invariant-loop-pair l = l.marks.items ≡ map second (take l.pair-index l.pairs)
