use Rattle.std.proofs.Common.{◌-◌, ◌≤◌, ℕ, length}
use Rattle.sonic_text.specs.Internal.Reading.{IsInString}
use Rattle.sonic_text.proofs.string.chars_end.Given as goal

abbrev pub invariant-chars : goal.invariant-chars
invariant-chars l = record { within : l.place ≤ length l.text; fits : (i : ℕ) → IsInString l.lossy l.text i l.from → IsInString l.lossy l.text i l.place }

abbrev pub decreases-chars : goal.decreases-chars
decreases-chars l = length l.text - l.place
