use Rattle.sonic_text.proofs.TreeLemmas.{type_means}
use Rattle.sonic_text.proofs.law.first_byte_says_the_type.Goals as goal

pub returns : goal.returns
returns c = λ t i j x. type_means
