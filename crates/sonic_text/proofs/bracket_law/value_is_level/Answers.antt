use Rattle.sonic_text.proofs.BracketLemmas.{value_level}
use Rattle.sonic_text.proofs.bracket_law.value_is_level.Goals as goal

pub returns : goal.returns
returns c = value_level
