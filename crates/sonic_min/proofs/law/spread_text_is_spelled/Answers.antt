use Rattle.sonic_min.proofs.SpreadLemmas.{text_spelled}
use Rattle.sonic_min.proofs.law.spread_text_is_spelled.Goals as goal

pub returns : goal.returns
returns c = λ t i j x g. text_spelled g
