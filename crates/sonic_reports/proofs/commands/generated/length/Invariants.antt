use Rattle.std.proofs.Common.{◌≡◌, ◌≤◌, ◌*◌, ◌^◌, sum_by, take}
use Rattle.sonic_reports.specs.Internal.Counted.{value_length}
use Rattle.sonic_reports.proofs.commands.generated.length.Given as goal

-- the lengths of the first values were added
abbrev pub invariant-loop-value : goal.invariant-loop-value
invariant-loop-value l = record {
  sum : l.length ≡ sum_by value_length (take l.value-index l.values);
  within : l.length ≤ l.value-index * 2 ^ 64;
}
