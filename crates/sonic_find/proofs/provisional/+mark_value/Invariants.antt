use Rattle.std.proofs.Common.{◌≡◌, ◌+◌, ◌-◌, ◌*◌, ◌≤◌, length}
use Rattle.sonic_find.specs.Internal.Marks.{IsMarking, KeptBeside}
use Rattle.sonic_find.specs.Internal.View.{container_at, marking_at}
use Rattle.sonic_find.proofs.provisional.+mark_value.Given as goal

abbrev pub decreases-mark_value : goal.decreases-mark_value
decreases-mark_value l = 4 * (length l.walk.now.text - l.walk.now.place) + 1

abbrev pub decreases-mark_of : goal.decreases-mark_of
decreases-mark_of l = 4 * (length l.walk.now.text - l.walk.now.place)

abbrev pub decreases-members : goal.decreases-members
decreases-members l = 4 * (length l.walk.now.text - l.walk.now.place) + 3

abbrev pub decreases-member : goal.decreases-member
decreases-member l = 4 * (length l.walk.now.text - l.walk.now.place) + 2

abbrev pub invariant-members-items : goal.invariant-members-items
invariant-members-items l = record {
  moved : l.walk ≡ record l.fn.walk { place = l.walk.place; marks = l.walk.marks };
  place : l.fn.walk.place ≤ l.walk.place;
  marking : IsMarking (marking_at l.walk l.level.view.now) (container_at l.fn.walk l.level) l.passed l.walk.place;
  beside : KeptBeside (marking_at l.fn.walk l.level.view.now) l.walk.marks l.level.view.now.prefix;
}

abbrev pub decreases-members-items : goal.decreases-members-items
decreases-members-items l = length l.walk.text - l.walk.place
