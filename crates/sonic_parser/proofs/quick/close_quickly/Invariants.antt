use Rattle.std.proofs.Common.{ℕ, ◌-◌, ◌<◌, ◌≤◌, length}
use Rattle.sonic_parser.specs.Internal.Skipping.{IsReached}
use Rattle.sonic_parser.specs.declared.skip.Reached.TheVariants.{Expected}
use Rattle.sonic_parser.proofs.quick.close_quickly.Given as goal

abbrev pub invariant-rooms : goal.invariant-rooms
invariant-rooms l = record {
  within : l.place ≤ length l.text;
  some : 0 < length l.opened.items;
  reached : (root : ℕ) → IsReached l.lossy l.text root l.fn.opened.items (Expected l.fn.first) → IsReached l.lossy l.text root l.opened.items (Expected l.place);
}

abbrev pub decreases-rooms : goal.decreases-rooms
decreases-rooms l = length l.text - l.place
