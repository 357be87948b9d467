use Rattle.std.proofs.Common.{ap, length, arith}
use Rattle.sonic_pointer.proofs.pieces.put.Goals as goal

pub holder-k-requires-clause-some : goal.holder-k-requires-clause-some
holder-k-requires-clause-some c =
    let more = c.in_ok-halve.ensures.grows in
    let same = ap length c.deref-2.ensures.value in
    omega arith
