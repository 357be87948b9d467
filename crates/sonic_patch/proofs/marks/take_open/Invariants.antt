use Rattle.std.proofs.Common.{ℕ, List, length}
use Rattle.std.specs.BTreeMap.{BTreeMap}
use Rattle.sonic_patch.specs.declared.shape.Shape.{Shape}
use Rattle.sonic_patch.specs.Internal.Stacks.{AreTaken, Cell, Represents}
use Rattle.sonic_patch.proofs.marks.take_open.Given as goal

abbrev pub invariant-slots : goal.invariant-slots
invariant-slots l = record {
  taken : (numbers : BTreeMap Shape ℕ) (cells : List Cell) → Represents numbers cells l.fn.slots.items → AreTaken numbers cells l.slots.items l.pairs.items;
}

abbrev pub decreases-slots : goal.decreases-slots
decreases-slots l = length l.slots.items
