use Rattle.std.proofs.lemmas.Result.{IfOk-weaker}
use Rattle.sonic_patch.proofs.WordLemmas.{texts_one}
use Rattle.sonic_patch.proofs.in_order.same_leaves.Goals as goal

pub returns-in-Text-Text : goal.returns-in-Text-Text
returns-in-Text-Text c =
    IfOk-weaker c.same_words.result _ _ (λ same h yes. texts_one c.in-Text-Text.is-0 c.in-Text-Text.is-1 (h yes)) c.same_words.ensures
