use Rattle.std.proofs.Common.{◌≡◌, ◌≤◌, ◌+◌, ◌-◌, true, drop, length}
use Rattle.std.specs.Str.{IsUtf8}
use Rattle.sonic_lines.proofs.RowLemmas.{ArePassed}
use Rattle.sonic_lines.specs.Internal.Rows.{columns_of}
use Rattle.sonic_lines.proofs.row.add_rows.Given as goal

-- the lines before are passed
abbrev pub invariant-line : goal.invariant-line
invariant-line l = record {
  few : l.number ≤ l.lines.before + l.start;
  passed : ArePassed (columns_of l.tree l.each) l.lines.before l.lines.stream.now l.number l.start l.has_error l.fn.out.items l.out.items;
  text : l.is_text ≡ true → IsUtf8 (drop l.start l.lines.stream.now);
}

abbrev pub decreases-line : goal.decreases-line
decreases-line l = length l.lines.stream.now - l.start
