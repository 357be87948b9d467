use Rattle.std.proofs.Common.{◌-◌, ◌≤◌, ℕ, length}
use Rattle.sonic_text.specs.Internal.Reading.{IsInString}
use Rattle.sonic_text.proofs.string.rest_end.Given as goal

abbrev pub invariant-blocks-2 : goal.invariant-blocks-2
invariant-blocks-2 l = record { within : l.place ≤ length l.text; fits : (i : ℕ) → IsInString l.lossy l.text i l.from → IsInString l.lossy l.text i l.place }

abbrev pub decreases-blocks-2 : goal.decreases-blocks-2
decreases-blocks-2 l = length l.text - l.place
