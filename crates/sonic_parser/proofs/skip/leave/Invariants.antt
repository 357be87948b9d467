use Rattle.std.proofs.Common.{ℕ, Bool, ◌-◌, ◌≤◌, ◌<◌, length, take}
use Rattle.sonic_parser.specs.OpenContainers.{IsItemEnded}
use Rattle.sonic_parser.proofs.skip.leave.Given as goal

abbrev pub invariant-containers : goal.invariant-containers
invariant-containers l = record {
  within : l.end ≤ length l.text;
  some : 0 < l.depth;
  fewer : l.depth ≤ l.fn.depth;
  later : l.ended ≤ l.end;
  ended : (m : Bool) (root : ℕ) → IsItemEnded m l.text root (take l.fn.depth l.kinds) l.ended → IsItemEnded m l.text root (take l.depth l.kinds) l.end;
}

abbrev pub decreases-containers : goal.decreases-containers
decreases-containers l = length l.text - l.end
