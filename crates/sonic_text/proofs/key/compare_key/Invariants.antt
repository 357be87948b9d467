use Rattle.std.proofs.Common.{◌-◌, ◌<◌, ◌≤◌, List, ℕ, length, take}
use Rattle.sonic_text.specs.Strings.{IsString, strict}
use Rattle.sonic_text.proofs.StringReadingLemmas.{IsReached}
use Rattle.sonic_text.proofs.key.compare_key.Given as goal

abbrev pub invariant-chars : goal.invariant-chars
invariant-chars l = (l.place < l.end) × (l.end ≤ length l.text) × (l.done ≤ length l.key)
    × ((b : List ℕ) → IsString strict l.text l.start l.end b → IsReached strict l.text l.start l.end l.place b (take l.done l.key))

abbrev pub decreases-chars : goal.decreases-chars
decreases-chars l = l.end - l.place
