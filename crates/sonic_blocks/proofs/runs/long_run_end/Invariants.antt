use Rattle.std.proofs.Common.{◌≡◌, ◌-◌, ◌≤◌, length}
use Rattle.sonic_blocks.proofs.RunLemmas.{end_of_run}
use Rattle.sonic_blocks.proofs.runs.long_run_end.Given as goal

abbrev pub invariant-loop-at : goal.invariant-loop-at
invariant-loop-at o l = record {
  later : l.place ≤ l.at;
  near : l.at ≤ l.near;
  within : l.near ≤ length l.text;
  run : end_of_run (o.K.ByteKind.test l.kind) l.text l.at ≡ end_of_run (o.K.ByteKind.test l.kind) l.text l.place;
}

abbrev pub decreases-loop-at : goal.decreases-loop-at
decreases-loop-at o l = l.near - l.at
