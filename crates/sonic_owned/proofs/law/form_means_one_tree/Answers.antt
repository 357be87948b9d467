use Rattle.sonic_owned.proofs.MeaningLemmas.{form_means_one, form_scalar}
use Rattle.sonic_owned.proofs.ValueLemmas.{value_sound, sound_means}
use Rattle.sonic_owned.proofs.law.form_means_one_tree.Goals as goal

pub returns-clause-sound : goal.returns-clause-sound
returns-clause-sound c = value_sound

pub returns-clause-means : goal.returns-clause-means
returns-clause-means c = λ f. sound_means

pub returns-clause-one_tree : goal.returns-clause-one_tree
returns-clause-one_tree c = λ f x y. form_means_one

pub returns-clause-scalar : goal.returns-clause-scalar
returns-clause-scalar c = λ f x. form_scalar
