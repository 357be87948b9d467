use Rattle.std.proofs.Common.{◌≡◌, ◌+◌, ◌-◌, ◌*◌, ◌<◌, ℕ, length}
use Rattle.std.specs.Prelude.{Some, slice_get, IfSome}
use Rattle.sonic_text.specs.Paths.{Node}
use Rattle.sonic_find.specs.Internal.Collected.{IsFailBelow, NodeCollected}
use Rattle.sonic_find.specs.Internal.Fill.{origin_at, settled_in, slots_question}
use Rattle.sonic_find.specs.Internal.Walk.{Keeps}
use Rattle.sonic_find.proofs.many_unchecked.+fill.Given as goal

abbrev pub decreases-fill : goal.decreases-fill
decreases-fill g l = 2 * (length l.origin.text.now - l.origin.place) + 1

abbrev pub decreases-fill_child : goal.decreases-fill_child
decreases-fill_child g l = 2 * (length l.origin.text.now - l.origin.place)

abbrev pub invariant-fill-loop-i : goal.invariant-fill-loop-i
invariant-fill-loop-i g l = record {
  kept : Keeps (slots_question g.S.Slot.tells l.origin.text.now l.view.paths) (settled_in g.S.Slot.told l.fn.slots) (settled_in g.S.Slot.told l.slots);
  fails : IfSome l.nearest (IsFailBelow (origin_at g.S.Slot.tells l.origin l.view));
  below : (c : ℕ) (node : Node) → c < l.i → slice_get l.view.children c ≡ Some node → NodeCollected (origin_at g.S.Slot.tells l.origin l.view) (settled_in g.S.Slot.told l.slots) l.nearest node;
}
