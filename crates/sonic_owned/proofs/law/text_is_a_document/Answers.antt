use Rattle.sonic_owned.proofs.TextLemmas.{text_means}
use Rattle.sonic_owned.proofs.ValueLemmas.{sound_valid}
use Rattle.sonic_owned.proofs.law.text_is_a_document.Goals as goal

pub returns-clause-means : goal.returns-clause-means
returns-clause-means c = λ f x. text_means

pub returns-clause-valid : goal.returns-clause-valid
returns-clause-valid c = λ f. sound_valid
