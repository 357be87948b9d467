use Rattle.sonic_paths.proofs.LineOutcomes.{head_one_thing}
use Rattle.sonic_paths.proofs.law.head_says_one_thing.Goals as goal

pub returns : goal.returns
returns c = head_one_thing
