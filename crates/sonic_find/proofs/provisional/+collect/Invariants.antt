use Rattle.std.proofs.Common.{◌≡◌, ◌+◌, ◌-◌, ◌*◌, ◌<◌, ℕ, length}
use Rattle.std.specs.Prelude.{Some, slice_get, IfSome}
use Rattle.sonic_text.specs.Paths.{Node}
use Rattle.sonic_find.specs.Internal.Collected.{IsFailBelow, NodeCollected}
use Rattle.sonic_find.specs.Internal.View.{asked_at, marked_at}
use Rattle.sonic_find.specs.Internal.Walk.{IsLater}
use Rattle.sonic_find.proofs.provisional.+collect.Given as goal

abbrev pub decreases-collect : goal.decreases-collect
decreases-collect l = 2 * (length l.walk.now.text - l.mark.value.start) + 1

abbrev pub decreases-collect_child : goal.decreases-collect_child
decreases-collect_child l = 2 * (length l.walk.now.text - l.mark.value.start)

abbrev pub invariant-collect-loop-i : goal.invariant-collect-loop-i
invariant-collect-loop-i l = record {
  kept : l.walk ≡ record l.fn.walk { findings = l.walk.findings };
  later : IsLater (asked_at l.fn.walk l.view) l.fn.walk.findings l.walk.findings;
  fails : IfSome l.nearest (IsFailBelow (marked_at l.fn.walk l.view l.mark));
  below : (c : ℕ) (node : Node) → c < l.i → slice_get l.view.children c ≡ Some node
      → NodeCollected (marked_at l.fn.walk l.view l.mark) l.walk.findings l.nearest node;
}
