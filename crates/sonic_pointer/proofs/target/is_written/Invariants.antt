use Rattle.std.proofs.Common.{◌-◌, ◌≡◌, ◌≢◌, ◌<◌, ◌≤◌, ℕ, length, take}
use Rattle.sonic_text.specs.Places.{byte}
use Rattle.sonic_pointer.proofs.target.is_written.Given as goal

abbrev pub invariant-loop-n : goal.invariant-loop-n
invariant-loop-n l = record {
  within : l.n ≤ length l.text;
  same : take l.n l.key ≡ take l.n l.text;
  plain : (k : ℕ) → k < l.n → byte l.text k ≢ 92;
}

abbrev pub decreases-loop-n : goal.decreases-loop-n
decreases-loop-n l = length l.text - l.n
