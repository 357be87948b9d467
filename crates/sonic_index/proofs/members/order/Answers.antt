use Rattle.std.proofs.lemmas.Result.{IfOk-weaker}
use Rattle.sonic_index.proofs.MemberLemmas.{ordered}
use Rattle.sonic_index.proofs.members.order.Goals as goal

pub returns : goal.returns
returns c =
    let joined = rw c.deref.ensures.value at c.in_ok-join.ensures in
    let made = rw c.deref-2.ensures.value at c.numbers_of.ensures in
    IfOk-weaker c.numbers_of.result _ _ (λ v e. ordered c.in_ok-plain.ensures joined c.sort_unstable.ensures.permutation c.sort_unstable.ensures.sorted e) made
