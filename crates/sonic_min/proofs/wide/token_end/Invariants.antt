use Rattle.std.proofs.Common.{◌≡◌, ℕ, ◌<◌, ◌≤◌, true}
use Rattle.sonic_text.specs.Places.{byte, is_space}
use Rattle.sonic_min.proofs.wide.token_end.Given as goal

abbrev pub invariant-loop-last : goal.invariant-loop-last
invariant-loop-last l = record {
  from : l.first ≤ l.last;
  to : l.last ≤ l.end;
  spaces : (k : ℕ) → l.last ≤ k → k < l.end → is_space (byte l.text k) ≡ true;
}

abbrev pub decreases-loop-last : goal.decreases-loop-last
decreases-loop-last l = l.last
