use Rattle.sonic_owned.proofs.ValueLemmas.{closed_sound, closed_means}
use Rattle.sonic_owned.proofs.law.closing_keeps_the_value.Goals as goal

pub returns-clause-sound : goal.returns-clause-sound
returns-clause-sound c = λ f. closed_sound

pub returns-clause-means : goal.returns-clause-means
returns-clause-means c = λ f. closed_means
