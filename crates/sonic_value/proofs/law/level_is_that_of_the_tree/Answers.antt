use Rattle.sonic_value.proofs.LevelLemmas.{value_tells}
use Rattle.sonic_value.proofs.law.level_is_that_of_the_tree.Goals as goal

pub returns : goal.returns
returns c = value_tells
