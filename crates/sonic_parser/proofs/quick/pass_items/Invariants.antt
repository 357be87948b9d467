use Rattle.std.proofs.Common.{ℕ, ◌≡◌, ◌-◌, ◌<◌, ◌≤◌, length, take}
use Rattle.sonic_parser.specs.Internal.Skipping.{IsReached}
use Rattle.sonic_parser.specs.OpenContainers.{IsTop}
use Rattle.sonic_parser.specs.declared.skip.Reached.TheVariants.{Expected}
use Rattle.sonic_parser.proofs.quick.pass_items.Given as goal

abbrev pub invariant-items : goal.invariant-items
invariant-items l = record {
  within : l.place ≤ length l.text;
  some : 0 < l.depth;
  long : length l.kinds ≡ length l.fn.kinds;
  room : l.depth ≤ length l.kinds;
  top : IsTop (take l.depth l.kinds) l.kind;
  reached : (root : ℕ) → IsReached l.lossy l.text root (take l.fn.depth l.fn.kinds) (Expected l.fn.first) → IsReached l.lossy l.text root (take l.depth l.kinds) (Expected l.place);
}

abbrev pub decreases-items : goal.decreases-items
decreases-items l = length l.text - l.place
