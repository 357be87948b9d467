use Rattle.sonic_c.proofs.PatchLemmas.{utf8_patch_errors}
use Rattle.sonic_c.proofs.patch.patch_of.Goals as goal

pub returns-in-Ok-clause-err : goal.returns-in-Ok-clause-err
returns-in-Ok-clause-err c = utf8_patch_errors c.read_patch.result c.in-Ok.ensures.ok c.in-Ok.ensures.utf8 c.read_patch.ensures.err
