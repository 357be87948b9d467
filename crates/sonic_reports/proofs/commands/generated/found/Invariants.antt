use Rattle.std.proofs.Common.{◌≡◌, ◌≤◌, count_by, take}
use Rattle.sonic_reports.specs.Commands.Generated.{is_found}
use Rattle.sonic_reports.proofs.commands.generated.found.Given as goal

-- those among the first values were counted
abbrev pub invariant-loop-value : goal.invariant-loop-value
invariant-loop-value l = record {
  count : l.found ≡ count_by is_found (take l.value-index l.values);
  within : l.found ≤ l.value-index;
}
