use Rattle.sonic_value.proofs.NumberLemmas.{fill_numbers}
use Rattle.sonic_value.proofs.law.what_is_filled_has_numbers.Goals as goal

pub returns : goal.returns
returns c = fill_numbers
