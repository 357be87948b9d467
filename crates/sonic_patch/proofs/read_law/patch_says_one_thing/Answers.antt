use Rattle.sonic_patch.proofs.OutcomeLemmas.{says_one_thing}
use Rattle.sonic_patch.proofs.read_law.patch_says_one_thing.Goals as goal

pub returns : goal.returns
returns c = says_one_thing
