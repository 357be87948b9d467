-- What is written, and what is left of all levels.
use Rattle.std.proofs.Common.{◌≤◌, ◌+◌}
use Rattle.std.specs.Fmt.{IsPlainFormatter}
use Rattle.sonic_owned.specs.Internal.Bulks.{members_bulk}
use Rattle.sonic_owned.specs.Internal.Unwritten.{all_bulk, all_left, items_left, left_text}
use Rattle.sonic_owned.specs.Writing.{IsWrittenUpTo}
use Rattle.sonic_owned.proofs.value.unwritten.+show_left.Given as goal

abbrev pub decreases-show_left : goal.decreases-show_left
decreases-show_left g l = 1 + members_bulk (items_left l.left)

abbrev pub invariant-levels : goal.invariant-levels
invariant-levels g l = record {
  written : IsPlainFormatter l.fn.f → IsWrittenUpTo g.W.Write.write_str_gives l.fn.f (left_text l.fn.left) (all_left l.level l.opened.items) l.f;
  less : all_bulk l.level l.opened.items ≤ 1 + members_bulk (items_left l.fn.left);
}

abbrev pub decreases-levels : goal.decreases-levels
decreases-levels g l = all_bulk l.level l.opened.items
