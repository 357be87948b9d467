-- What is written after the first quote is what was read, quoted.
use Rattle.std.proofs.Common.{◌-◌, ◌≤◌, length, take}
use Rattle.std.specs.Fmt.{HasWritten, IsPlainFormatter}
use Rattle.std.specs.Str.{IsCharBoundary}
use Rattle.sonic_text.specs.Quoting.{quoted_bytes}
use Rattle.sonic_text.proofs.quoted.write_quoted.Given as goal

abbrev pub invariant-runs : goal.invariant-runs
invariant-runs g l =
    (l.read ≤ length l.bytes) × IsCharBoundary l.bytes l.read
    × (IsPlainFormatter l.initial.f → HasWritten g.W.Write.write_str_gives l.initial.f (quoted_bytes (take l.read l.bytes)) l.f)

abbrev pub decreases-runs : goal.decreases-runs
decreases-runs g l = length l.bytes - l.read
