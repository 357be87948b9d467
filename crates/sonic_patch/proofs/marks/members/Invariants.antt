use Rattle.std.proofs.Common.{take}
use Rattle.sonic_patch.specs.Internal.Marks.{IsSetOf}
use Rattle.sonic_patch.proofs.marks.members.Given as goal

abbrev pub invariant-loop-pair : goal.invariant-loop-pair
invariant-loop-pair l = IsSetOf (take l.pair-index l.pairs) l.set
