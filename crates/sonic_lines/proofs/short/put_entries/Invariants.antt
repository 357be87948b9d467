use Rattle.std.proofs.Common.{◌≡◌, ◌++◌, ◌<◌, ◌≤◌, drop, length}
use Rattle.std.specs.Prelude.{codes}
use Rattle.sonic_lines.specs.LineRows.{outcomes_text}
use Rattle.sonic_lines.proofs.short.put_entries.Given as goal

-- the entries from a slot on are put
abbrev pub invariant-loop-number : goal.invariant-loop-number
invariant-loop-number l = record {
  number : l.number ≤ length l.buffers;
  some : 0 < l.at;
  within : l.at ≤ 128;
  text : drop l.at l.short ≡ outcomes_text l.line (drop l.number l.buffers) ++ codes "\n";
}

abbrev pub decreases-loop-number : goal.decreases-loop-number
decreases-loop-number l = l.number
