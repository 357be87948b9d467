use Rattle.sonic_owned.proofs.PartTextLemmas.{text_of_part}
use Rattle.sonic_owned.proofs.law.part_stands_in_the_text.Goals as goal

pub returns : goal.returns
returns c = λ path f g. text_of_part
