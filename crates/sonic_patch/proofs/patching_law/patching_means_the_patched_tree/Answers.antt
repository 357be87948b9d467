use Rattle.sonic_patch.proofs.PatchLemmas.{patching_means, patching_refused, patching_some, patching_one, patching_sound, patching_text}
use Rattle.sonic_patch.proofs.patching_law.patching_means_the_patched_tree.Goals as goal

pub returns-clause-made : goal.returns-clause-made
returns-clause-made c = λ ops os f h x patch are. patching_means patch are

pub returns-clause-refused : goal.returns-clause-refused
returns-clause-refused c = λ ops os f h x n cause patch is. patching_refused patch is h

pub returns-clause-some : goal.returns-clause-some
returns-clause-some c = λ ops os f x patch. patching_some patch

pub returns-clause-one : goal.returns-clause-one
returns-clause-one c = λ ops os f g h x patch are own. patching_one patch are own

pub returns-clause-sound : goal.returns-clause-sound
returns-clause-sound c = λ ops os f h x patch are. patching_sound patch are

pub returns-clause-text : goal.returns-clause-text
returns-clause-text c = λ ops os f h x patch are. patching_text patch are
