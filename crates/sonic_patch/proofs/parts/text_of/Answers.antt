use Rattle.std.proofs.lemmas.Result.{IfOk-weaker}
use Rattle.sonic_patch.proofs.OperationLemmas.{none_denoted}
use Rattle.sonic_patch.proofs.parts.text_of.Goals as goal

pub returns-in-Some-clause-none : goal.returns-in-Some-clause-none
returns-in-Some-clause-none c =
    let member = rw c.in-Some.is at c.member.ensures.some in
    IfOk-weaker c.denoted.result _ _ (λ found none is. none_denoted member (none is)) c.denoted.ensures.none

pub returns-in-None-clause-none : goal.returns-in-None-clause-none
returns-in-None-clause-none c = λ _ b x. c.member.ensures.none c.in-None.is x.value x.member
