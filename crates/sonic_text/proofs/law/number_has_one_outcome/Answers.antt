use Rattle.std.proofs.Common.{Ok, Err}
use Rattle.sonic_text.proofs.Numbers.{number_some, number_one, number_outcome_one}
use Rattle.sonic_text.proofs.law.number_has_one_outcome.Goals as goal

pub returns : goal.returns
returns c = λ t i. record {
  some_outcome = number_some t i;
  one_end = λ j k. number_one;
  one_fault = λ s r f g. let e = number_outcome_one t i (Err s) (Err r) f g in cc;
  never_both = λ j s h f. let e = number_outcome_one t i (Ok j) (Err s) h f in cc;
}
