use Rattle.std.proofs.Common.{◌≡◌, ◌++◌, codes}
use Rattle.sonic_reports.specs.Commands.Generated.{records}
use Rattle.sonic_reports.proofs.commands.generated.generate.Given as goal

-- the first objects were written
abbrev pub invariant-loop-number : goal.invariant-loop-number
invariant-loop-number l = l.text.items ≡ codes "[" ++ records l.number
