-- What is left of the tokens decides.
use Rattle.std.proofs.Common.{◌≡◌, ◌<◌, ◌≤◌, ◌-◌, length, drop}
use Rattle.sonic_patch.specs.Patching.{is_before}
use Rattle.sonic_patch.proofs.make.is_before.Given as goal

abbrev pub invariant-tokens : goal.invariant-tokens
invariant-tokens l = record {
  shorter : length l.fn.from < length l.fn.path;
  within : l.i ≤ length l.fn.from;
  rest : is_before (drop l.i l.fn.from) (drop l.i l.fn.path) ≡ is_before l.fn.from l.fn.path;
}

abbrev pub decreases-tokens : goal.decreases-tokens
decreases-tokens l = length l.fn.from - l.i
