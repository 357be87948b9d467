use Rattle.std.proofs.Common.{arith}
use Rattle.sonic_value.proofs.KeepingLemmas.{spelled_more}
use Rattle.sonic_value.proofs.reader.spelled.Goals as goal

pub loop-byte-preserved : goal.loop-byte-preserved
loop-byte-preserved c =
    let first = c.in_ok-push.ensures in
    let second = c.in_ok-push-2.ensures in
    let small = c.type_inv.bytes c.loop-byte.byte-index in
    spelled_more c.args.bytes.now c.loop-byte.byte-index (omega (arith, c.loop-byte-test.true)) c.loop-byte.invariant first.bytes (first.ascii (omega (arith, small)))
    second.bytes (second.ascii (omega (arith, small)))
