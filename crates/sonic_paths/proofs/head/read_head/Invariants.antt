use Rattle.std.proofs.Common.{◌-◌, ◌+◌, ◌≤◌, length}
use Rattle.sonic_paths.proofs.HeadLemmas.{ReadSoFar}
use Rattle.sonic_paths.proofs.head.read_head.Given as goal

abbrev pub invariant-lines : goal.invariant-lines
invariant-lines g l = record {
  within : l.start ≤ length l.input;
  few : l.number ≤ l.start + 1;
  some : 1 ≤ l.number;
  read : ReadSoFar g.R.LineReader.says l.input (g.R.LineReader.said l.initial.reader) l.start (g.R.LineReader.said l.reader) (l.number - 1);
}

abbrev pub decreases-lines : goal.decreases-lines
decreases-lines g l = length l.input - l.start
