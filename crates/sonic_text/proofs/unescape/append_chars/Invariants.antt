use Rattle.std.proofs.Common.{◌≡◌, ◌-◌, ◌<◌, ◌≤◌, ◌++◌, ℕ, List, length}
use Rattle.sonic_text.proofs.StringReadingLemmas.{IsReached}
use Rattle.sonic_text.proofs.unescape.append_chars.Given as goal

abbrev pub invariant-chars : goal.invariant-chars
invariant-chars l =
    (l.place < l.end) × (l.end ≤ length l.text) × (b : List ℕ) × (c : List ℕ) × IsReached l.lossy l.text l.start l.end l.place b c × (l.out.items ≡ l.fn.out.items ++ c)

abbrev pub decreases-chars : goal.decreases-chars
decreases-chars l = l.end - l.place
