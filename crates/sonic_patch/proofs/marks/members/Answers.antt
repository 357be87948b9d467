use Rattle.std.proofs.Common.{◌≡◌, ◌+◌, ◌++◌, [], ◌∷◌, get_or, take}
use Rattle.std.proofs.lemmas.List.{take_more}
use Rattle.sonic_patch.specs.Internal.Marks.{Pair}
use Rattle.sonic_patch.proofs.StackLemmas.{set_more}
use Rattle.sonic_patch.proofs.marks.members.Goals as goal

pub loop-pair-preserved : goal.loop-pair-preserved
loop-pair-preserved c =
    let pairs = c.args.pairs.now in
    let k = c.loop-pair.pair-index in
    let p : Pair = get_or pairs k (0, 0) in
    let taken : take (k + 1) pairs ≡ take k pairs ++ p ∷ [] = take_more pairs k (0, 0) c.loop-pair-test.true in
    rw taken (set_more p c.in_ok-insert.ensures.ordered c.in_ok-insert.ensures.updates.0 c.loop-pair.invariant)
