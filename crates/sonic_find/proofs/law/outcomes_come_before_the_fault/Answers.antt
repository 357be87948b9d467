use Rattle.sonic_find.proofs.law.outcomes_come_before_the_fault.Goals as goal
use Rattle.std.proofs.Common.{refl}
use Rattle.sonic_find.proofs.PathLemmas.Outcome.{ends_before_fault}

-- a path ends before the fault
pub returns : goal.returns
returns c = record {
  fails = λ r t path s f fault leads. ends_before_fault path leads fault refl;
  lacks = λ r t path q f fault leads. ends_before_fault path leads fault refl;
}
