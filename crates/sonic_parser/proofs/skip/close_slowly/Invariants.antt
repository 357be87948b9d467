use Rattle.std.proofs.Common.{ℕ, length, ◌-◌, ◌<◌, ◌≤◌}
use Rattle.sonic_parser.specs.Internal.Skipping.{IsReached}
use Rattle.sonic_parser.specs.declared.skip.Reached.TheVariants.{Expected}
use Rattle.sonic_parser.proofs.skip.close_slowly.Given as goal

abbrev pub invariant-items : goal.invariant-items
invariant-items l = record {
  within : l.place ≤ length l.text;
  some : 0 < length l.opened.items;
  reached : (root : ℕ) → IsReached l.lossy l.text root l.fn.opened.items (Expected l.fn.first) → IsReached l.lossy l.text root l.opened.items (Expected l.place);
}

abbrev pub decreases-items : goal.decreases-items
decreases-items l = length l.text - l.place
