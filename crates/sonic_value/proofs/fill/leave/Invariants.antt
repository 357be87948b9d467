-- The member that ended, and the objects that are open.
use Rattle.std.proofs.Common.{◌≡◌, ◌≤◌, ℕ, length}
use Rattle.sonic_text.specs.Trees.{Tree}
use Rattle.sonic_value.proofs.fill.leave.Given as goal
use Rattle.sonic_value.specs.Internal.Fillers.{items_of}
use Rattle.sonic_value.specs.Internal.OpenSchemas.{IsMemberEnded}

abbrev pub invariant-levels : goal.invariant-levels
invariant-levels l = record {
  kept : l.reader ≡ record { source = l.fn.reader.source; place = l.reader.place };
  later : l.fn.reader.place ≤ l.reader.place;
  ended : (depth_left : ℕ) (schema : Tree) (i : ℕ) → IsMemberEnded l.fn.reader.source depth_left schema i l.fn.opened.items (items_of l.fn.members.items) l.fn.reader.place
      → IsMemberEnded l.fn.reader.source depth_left schema i l.opened.items (items_of l.members.items) l.reader.place;
}

abbrev pub decreases-levels : goal.decreases-levels
decreases-levels l = length l.opened.items
