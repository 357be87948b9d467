use Rattle.sonic_text.proofs.BracketLemmas.{value_closes}
use Rattle.sonic_text.proofs.bracket_law.value_balances.Goals as goal

pub returns : goal.returns
returns c = value_closes
