use Rattle.std.proofs.Common.{◌≡◌, ◌+◌, ◌*◌, ◌≤◌, ◌++◌, length, take, drop, ◌-◌}
use Rattle.sonic_text.specs.Quoting.{quoted_bytes}
use Rattle.sonic_text.proofs.quote.put_contents.Given as goal

abbrev pub invariant-runs : goal.invariant-runs
invariant-runs l =
    (l.read ≤ length l.text) × (l.place ≤ l.start + 6 * l.read) × (length l.dst ≡ length l.fn.dst)
    × (take l.place l.dst ≡ take l.start l.fn.dst ++ quoted_bytes (take l.read l.text)) × (drop l.place l.dst ≡ drop l.place l.fn.dst)

abbrev pub decreases-runs : goal.decreases-runs
decreases-runs l = length l.text - l.read
