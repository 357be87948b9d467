use Rattle.sonic_patch.proofs.SoundLemmas.{patch_sound, operations_mean}
use Rattle.sonic_patch.proofs.read_law.patch_says_sound_operations.Goals as goal

pub returns-clause-sound : goal.returns-clause-sound
returns-clause-sound c = λ t ops utf8 says. patch_sound utf8 says

pub returns-clause-mean : goal.returns-clause-mean
returns-clause-mean c = λ t ops utf8 says. operations_mean ops (patch_sound utf8 says)
