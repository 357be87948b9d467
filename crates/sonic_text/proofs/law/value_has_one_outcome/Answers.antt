use Rattle.sonic_text.proofs.Outcomes.{value_some_outcome}
use Rattle.sonic_text.proofs.Values.{value_end_one, value_fault_one, value_never_both}
use Rattle.sonic_text.proofs.law.value_has_one_outcome.Goals as goal

pub returns : goal.returns
returns c = λ m t i. record {
  some_outcome = value_some_outcome m t i;
  one_end = λ j k. value_end_one;
  one_fault = λ s r. value_fault_one;
  never_both = λ j s. value_never_both;
}
