use Rattle.std.proofs.Common.{◌≡◌, ◌-◌, ◌≤◌, length}
use Rattle.sonic_blocks.proofs.RunLemmas.{end_of_run}
use Rattle.sonic_blocks.proofs.runs.far_run_end.Given as goal

abbrev pub invariant-loop-at : goal.invariant-loop-at
invariant-loop-at o l = record {
  later : l.place ≤ l.at;
  within : l.at ≤ length l.text;
  run : end_of_run (o.K.ByteKind.test l.kind) l.text l.at ≡ end_of_run (o.K.ByteKind.test l.kind) l.text l.place;
}

abbrev pub decreases-loop-at : goal.decreases-loop-at
decreases-loop-at o l = length l.text - l.at
