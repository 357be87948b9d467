-- What is written, and what is left of the level.
use Rattle.std.proofs.Common.{◌≤◌}
use Rattle.std.specs.Fmt.{IsPlainFormatter}
use Rattle.sonic_owned.specs.Internal.Bulks.{members_bulk}
use Rattle.sonic_owned.specs.Internal.Unwritten.{items_left, left_text}
use Rattle.sonic_owned.specs.Writing.{IsWrittenUpTo}
use Rattle.sonic_owned.proofs.value.unwritten.Unwritten.next_level.Given as goal

abbrev pub invariant-items : goal.invariant-items
invariant-items g l = record {
  written : IsPlainFormatter l.fn.f → IsWrittenUpTo g.W.Write.write_str_gives l.fn.f (left_text l.fn.self) (left_text l.self) l.f;
  less : members_bulk (items_left l.self) ≤ members_bulk (items_left l.fn.self);
}

abbrev pub decreases-items : goal.decreases-items
decreases-items g l = members_bulk (items_left l.self)
