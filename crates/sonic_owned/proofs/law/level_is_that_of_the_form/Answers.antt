use Rattle.sonic_owned.proofs.LevelLemmas.{value_tells}
use Rattle.sonic_owned.proofs.law.level_is_that_of_the_form.Goals as goal

pub returns : goal.returns
returns c = value_tells
