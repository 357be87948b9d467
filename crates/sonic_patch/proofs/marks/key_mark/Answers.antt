use Rattle.std.proofs.Common.{subst}
use Rattle.std.proofs.lemmas.Result.{IfOk-weaker}
use Rattle.sonic_patch.specs.Internal.Marks.{Signature, Names}
use Rattle.sonic_patch.proofs.ScalarLemmas.{key_signature}
use Rattle.sonic_patch.proofs.marks.key_mark.Goals as goal

pub returns-in_ok-bytes-in-Some-clause-mark : goal.returns-in_ok-bytes-in-Some-clause-mark
returns-in_ok-bytes-in-Some-clause-mark c =
    IfOk-weaker c.number-in-Some.result _ _
    (λ n h l is. subst (λ (f : Signature). Names c.number-in-Some.new.self.given f n) (key_signature c.in-Some.is c.in_ok-bytes-in-Some.ensures l is) h)
    c.number-in-Some.ensures.number
