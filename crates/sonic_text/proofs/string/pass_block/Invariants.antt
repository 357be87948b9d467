use Rattle.std.proofs.Common.{◌-◌, ◌≤◌, ℕ, length}
use Rattle.sonic_text.specs.Internal.Reading.{IsLeftOf, IsInString}
use Rattle.sonic_text.proofs.string.pass_block.Given as goal

abbrev pub invariant-chars : goal.invariant-chars
invariant-chars l = record {
  later : l.base ≤ l.place;
  within : l.place ≤ length l.text;
  bits : IsLeftOf l.special (l.place - l.base) l.left;
  fits : (i : ℕ) → IsInString l.lossy l.text i l.base → IsInString l.lossy l.text i l.place;
}

abbrev pub decreases-chars : goal.decreases-chars
decreases-chars l = length l.text - l.place
