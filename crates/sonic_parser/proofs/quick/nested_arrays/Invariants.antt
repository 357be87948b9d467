use Rattle.std.proofs.Common.{ℕ, ◌≡◌, ◌+◌, ◌-◌, ◌≤◌}
use Rattle.sonic_text.specs.Places.{byte}
use Rattle.sonic_parser.proofs.quick.nested_arrays.Given as goal

abbrev pub invariant-loop-count : goal.invariant-loop-count
invariant-loop-count l = record { few : l.count ≤ l.limit; nested : (k : ℕ) → k ≤ l.count → byte l.text (l.place + k) ≡ 91 }

abbrev pub decreases-loop-count : goal.decreases-loop-count
decreases-loop-count l = l.limit - l.count
