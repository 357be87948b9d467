use Rattle.sonic_text.proofs.EndLemmas.{value_ends_solid}
use Rattle.sonic_text.proofs.Values.{value_no_space}
use Rattle.sonic_text.proofs.law.value_has_no_space_at_its_ends.Goals as goal

pub returns : goal.returns
returns c = λ m t i j x. (value_no_space x, value_ends_solid x)
