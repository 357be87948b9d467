use Rattle.sonic_value.proofs.NumberLemmas.{means_numbers}
use Rattle.sonic_value.proofs.law.what_is_read_has_numbers.Goals as goal

pub returns : goal.returns
returns c = λ t i j x. means_numbers
