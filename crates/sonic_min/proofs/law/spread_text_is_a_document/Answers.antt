use Rattle.sonic_min.proofs.SpreadLemmas.{text_document}
use Rattle.sonic_min.proofs.law.spread_text_is_a_document.Goals as goal

pub returns : goal.returns
returns c = λ t x g. text_document g
