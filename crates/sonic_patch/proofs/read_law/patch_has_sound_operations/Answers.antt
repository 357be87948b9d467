use Rattle.sonic_patch.proofs.SoundLemmas.{operations_mean, patch_of_few, patch_of_sound}
use Rattle.sonic_patch.proofs.read_law.patch_has_sound_operations.Goals as goal

pub returns-clause-sound : goal.returns-clause-sound
returns-clause-sound c = patch_of_sound

pub returns-clause-mean : goal.returns-clause-mean
returns-clause-mean c = λ patch. operations_mean _ (patch_of_sound patch)

pub returns-clause-few : goal.returns-clause-few
returns-clause-few c = patch_of_few
