use Rattle.sonic_find.proofs.MarkLemmas.Collect.{unmixed_agree}
use Rattle.sonic_find.proofs.law.fails_at_one_place_agree.Goals as goal

-- paths of one tree mix nowhere
pub returns : goal.returns
returns c = λ r t paths p q s f. unmixed_agree p q
