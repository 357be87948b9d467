use Rattle.std.proofs.Common.{◌≡◌, ◌<◌, ◌≤◌, ℕ, length}
use Rattle.std.specs.Prelude.{Some, slice_get}
use Rattle.sonic_find.proofs.each.tell_all.Given as goal
use Rattle.sonic_find.specs.Internal.Each.{IsTelling}
use Rattle.sonic_find.specs.declared.outcome.PathOutcome.{PathOutcome}

abbrev pub invariant-loop-i : goal.invariant-loop-i
invariant-loop-i g l = record {
  long : length l.slots ≡ length l.initial.slots;
  done : (k : ℕ) (x y : PathOutcome _) → k < l.i → slice_get l.initial.slots k ≡ Some x → slice_get l.slots k ≡ Some y → IsTelling x y;
  rest : (k : ℕ) → l.i ≤ k → slice_get l.slots k ≡ slice_get l.initial.slots k;
}
