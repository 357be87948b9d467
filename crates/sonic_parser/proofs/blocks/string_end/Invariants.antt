use Rattle.std.proofs.Common.{◌≡◌, ℕ, ◌-◌, ◌≤◌, true}
use Rattle.sonic_blocks.specs.Outside.{is_inside_at}
use Rattle.sonic_blocks.specs.Carried.{AreCarried}
use Rattle.sonic_parser.specs.Internal.Unchecked.{IsInsideString}
use Rattle.sonic_parser.proofs.blocks.string_end.Given as goal

abbrev pub invariant-loop-place : goal.invariant-loop-place
invariant-loop-place g l = record {
  carried : (s : ℕ) → IsInsideString l.tape s l.start → AreCarried l.tape s l.place l.in_escape l.in_string;
  inside : (s : ℕ) → IsInsideString l.tape s l.start → (k : ℕ) → l.start ≤ k → k ≤ l.place → is_inside_at l.tape s k ≡ true;
  later : l.start ≤ l.place;
}

abbrev pub decreases-loop-place : goal.decreases-loop-place
decreases-loop-place g l = l.len - l.place
