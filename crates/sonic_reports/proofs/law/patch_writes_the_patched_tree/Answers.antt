use Rattle.std.proofs.Common.{refl}
use Rattle.sonic_reports.proofs.PatchLemmas.{writes_patched}
use Rattle.sonic_reports.proofs.law.patch_writes_the_patched_tree.Goals as goal

pub returns : goal.returns
returns c = λ input text report. writes_patched report refl
