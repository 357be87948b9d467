use Rattle.std.proofs.lemmas.Result.{IfOk-weaker}
use Rattle.sonic_patch.proofs.WordLemmas.{labels_one}
use Rattle.sonic_patch.proofs.word.same_keys.Goals as goal

pub returns-in-Some-other : goal.returns-in-Some-other
returns-in-Some-other c = IfOk-weaker c.same_words.result _ _ (λ same h yes. labels_one c.in-Some.is c.in-Some-other.is (h yes)) c.same_words.ensures
