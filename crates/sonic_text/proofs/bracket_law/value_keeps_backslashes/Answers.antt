use Rattle.sonic_text.proofs.BracketLemmas.{value_backslashes}
use Rattle.sonic_text.proofs.bracket_law.value_keeps_backslashes.Goals as goal

pub returns : goal.returns
returns c = value_backslashes
