use Rattle.std.proofs.Common.{arith}
use Rattle.sonic_text.proofs.SameFaults.{fault_decides}
use Rattle.sonic_text.proofs.ValueCompletions.{may_go_on}
use Rattle.sonic_text.proofs.law.end_is_honest.Goals as goal

pub returns-clause-goes_on : goal.returns-clause-goes_on
returns-clause-goes_on c = λ m t s. may_go_on (omega arith)

pub returns-clause-is_final : goal.returns-clause-is_final
returns-clause-is_final c = λ m t s. fault_decides 0
