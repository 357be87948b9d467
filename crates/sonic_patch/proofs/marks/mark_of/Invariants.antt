use Rattle.std.proofs.Common.{ℕ, length, ◌+◌, ◌-◌}
use Rattle.sonic_text.specs.Trees.{Tree, Means}
use Rattle.sonic_patch.specs.Internal.Marks.{AreNumbers, Signature, Names}
use Rattle.sonic_patch.specs.Internal.Stacks.{IsUnderWay}
use Rattle.sonic_patch.proofs.marks.mark_of.Given as goal

abbrev pub invariant-parts : goal.invariant-parts
invariant-parts l = record {
  kept : AreNumbers l.numbers.given;
  more : (f : Signature) (n : ℕ) → Names l.fn.numbers.given f n → Names l.numbers.given f n;
  goes : (x : Tree) → Means l.fn.text 0 (length l.fn.text) x → IsUnderWay l.numbers.given l.walk l.slots.items x;
}

abbrev pub decreases-parts : goal.decreases-parts
decreases-parts l = length l.walk.inner.text + 1 - l.walk.inner.place
