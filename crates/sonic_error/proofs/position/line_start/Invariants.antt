-- All that is left after is one line.
use Rattle.std.proofs.Common.{◌≡◌, ◌+◌, ◌-◌, ◌≤◌, take}
use Rattle.std.specs.Prelude.{not}
use Rattle.std.specs.List.{suffix_len}
use Rattle.sonic_error.specs.Places.{is_line_feed}
use Rattle.sonic_error.proofs.position.line_start.Given as goal

abbrev pub invariant-loop-start : goal.invariant-loop-start
invariant-loop-start l = record {
  within : l.start ≤ l.offset;
  passed : suffix_len (λ x. not (is_line_feed x)) (take l.offset l.json) ≡ (l.offset - l.start) + suffix_len (λ x. not (is_line_feed x)) (take l.start l.json);
}

abbrev pub decreases-loop-start : goal.decreases-loop-start
decreases-loop-start l = l.start
