use Rattle.std.proofs.Common.{◌≡◌, ◌+◌, ◌-◌, ◌≤◌, ◌==◌, drop, length}
use Rattle.std.specs.Prelude.{count_by}
use Rattle.sonic_blocks.proofs.count.count_of.Given as goal

abbrev pub invariant-loop-at : goal.invariant-loop-at
invariant-loop-at l = record {
  within : l.at ≤ length l.text;
  few : l.count ≤ l.at;
  counted : count_by (λ x. x == l.byte) l.text ≡ l.count + count_by (λ x. x == l.byte) (drop l.at l.text);
}

abbrev pub decreases-loop-at : goal.decreases-loop-at
decreases-loop-at l = length l.text - l.at
