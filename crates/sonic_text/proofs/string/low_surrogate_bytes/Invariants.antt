use Rattle.std.proofs.Common.{◌-◌, ◌≡◌, ◌+◌, ◌<◌, ◌≤◌, ℕ, length, true}
use Rattle.sonic_text.specs.Places.{byte}
use Rattle.sonic_text.specs.Strings.{is_low_surrogate_byte}
use Rattle.sonic_text.proofs.string.low_surrogate_bytes.Given as goal

abbrev pub invariant-loop-n : goal.invariant-loop-n
invariant-loop-n l = record {
  few : l.n ≤ 6;
  within : l.place + l.n ≤ length l.text;
  right : (d : ℕ) → d < l.n → is_low_surrogate_byte d (byte l.text (l.place + d)) ≡ true;
}

abbrev pub decreases-loop-n : goal.decreases-loop-n
decreases-loop-n l = 6 - l.n
