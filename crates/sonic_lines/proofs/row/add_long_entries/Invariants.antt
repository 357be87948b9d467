use Rattle.std.proofs.Common.{◌≡◌, ◌++◌, take}
use Rattle.sonic_lines.specs.LineRows.{outcomes_text}
use Rattle.sonic_lines.proofs.row.add_long_entries.Given as goal

-- the entries of the slots before are appended
abbrev pub invariant-loop-number : goal.invariant-loop-number
invariant-loop-number l = l.out.items ≡ l.fn.out.items ++ outcomes_text l.line (take l.number l.buffers)
