use Rattle.std.proofs.Common.{◌≡◌, ◌⊎◌, ◌-◌, ◌<◌, length}
use Rattle.sonic_index.proofs.room.most_over.Given as goal

abbrev pub invariant-loop-place : goal.invariant-loop-place
invariant-loop-place g l = record {
  tape : l.tape ≡ l.text;
  string : (l.in_string ≡ 0) ⊎ (l.in_string ≡ 18446744073709551615);
  escape : l.in_escape < 2;
}

abbrev pub decreases-loop-place : goal.decreases-loop-place
decreases-loop-place g l = length l.text - l.place
