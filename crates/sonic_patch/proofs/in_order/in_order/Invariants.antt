use Rattle.std.proofs.Common.{length, ◌+◌, ◌-◌}
use Rattle.sonic_text.specs.Trees.{Tree, Means}
use Rattle.sonic_patch.specs.Internal.Steps.{AreInStep}
use Rattle.sonic_patch.proofs.in_order.in_order.Given as goal

abbrev pub invariant-parts : goal.invariant-parts
invariant-parts l = record {
  steps : (x y : Tree) → Means l.fn.left 0 (length l.fn.left) x → Means l.fn.right 0 (length l.fn.right) y → AreInStep x y l.one l.other;
}

abbrev pub decreases-parts : goal.decreases-parts
decreases-parts l = length l.one.inner.text + 1 - l.one.inner.place
