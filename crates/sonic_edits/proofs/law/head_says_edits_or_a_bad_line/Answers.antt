use Rattle.sonic_edits.proofs.LineOutcomes.{head_one_thing}
use Rattle.sonic_edits.proofs.law.head_says_edits_or_a_bad_line.Goals as goal

pub returns : goal.returns
returns c = head_one_thing
