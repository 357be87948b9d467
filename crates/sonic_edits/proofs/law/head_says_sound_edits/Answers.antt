use Rattle.sonic_edits.proofs.SoundLemmas.{edit_lines_sound}
use Rattle.sonic_owned.proofs.EditLemmas.{edits_mean}
use Rattle.sonic_edits.proofs.law.head_says_sound_edits.Goals as goal

pub returns-clause-sound : goal.returns-clause-sound
returns-clause-sound c = λ input es d says. edit_lines_sound says.are

pub returns-clause-mean : goal.returns-clause-mean
returns-clause-mean c = λ input es d says. edits_mean (edit_lines_sound says.are)
