use Rattle.sonic_index.proofs.EntryLemmas.{entries_one}
use Rattle.sonic_index.proofs.law.entries_are_one.Goals as goal

pub returns : goal.returns
returns c = λ t es fs. entries_one es fs
