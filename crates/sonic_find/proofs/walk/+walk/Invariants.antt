use Rattle.std.proofs.Common.{◌≡◌, ◌+◌, ◌-◌, ◌*◌, ◌<◌, length}
use Rattle.sonic_find.specs.Internal.Marks.{KeepsMarks}
use Rattle.sonic_find.specs.Internal.View.{asked_at, container_at, marking_at, progress_of, NoneBefore}
use Rattle.sonic_find.specs.Internal.Walk.{IsFollowed, IsWanted, IsLater}
use Rattle.sonic_find.proofs.walk.+walk.Given as goal

abbrev pub decreases-follow : goal.decreases-follow
decreases-follow l = 4 * (length l.walk.now.text - l.walk.now.place) + 2

abbrev pub decreases-follow_children : goal.decreases-follow_children
decreases-follow_children l = 4 * (length l.walk.now.text - l.walk.now.place) + 1

abbrev pub decreases-items : goal.decreases-items
decreases-items l = 4 * (length l.walk.now.text - l.walk.now.place)

abbrev pub decreases-item : goal.decreases-item
decreases-item l = 4 * (length l.walk.now.text - l.walk.now.place) + 3

abbrev pub invariant-items-items : goal.invariant-items-items
invariant-items-items l = record {
  same : l.walk ≡ record l.fn.walk { place = l.walk.place; findings = l.walk.findings; marks = l.walk.marks };
  place : l.fn.walk.place < l.walk.place;
  within : l.fn.walk.place < length l.walk.text;
  before : IsFollowed (container_at l.fn.walk l.level) (progress_of l.walk l.passed l.visited);
  wanted : IsWanted (container_at l.fn.walk l.level) (progress_of l.walk l.passed l.visited);
  later : IsLater (asked_at l.fn.walk l.level.view.now) l.fn.walk.findings l.walk.findings;
  marks : KeepsMarks (marking_at l.walk l.level.view.now) l.walk.place;
  none : NoneBefore l.level.view.now l.passed l.next_child;
}

abbrev pub decreases-items-items : goal.decreases-items-items
decreases-items-items l = length l.walk.text - l.walk.place
