-- The bytes that were copied, and the zeros after them.
use Rattle.std.proofs.Common.{◌≡◌, ℕ, ◌+◌, ◌-◌, ◌<◌, ◌≤◌, length, get_or}
use Rattle.sonic_min.proofs.marks.last_lanes.Given as goal

abbrev pub invariant-loop-i : goal.invariant-loop-i
invariant-loop-i l = record {
  long : length l.last ≡ 64;
  within : l.place + l.i ≤ length l.text;
  copied : (k : ℕ) → k < l.i → get_or l.last k 0 ≡ get_or l.text (l.place + k) 0;
  zeros : (k : ℕ) → l.i ≤ k → k < 64 → get_or l.last k 0 ≡ 0;
}

abbrev pub decreases-loop-i : goal.decreases-loop-i
decreases-loop-i l = 64 - l.i
