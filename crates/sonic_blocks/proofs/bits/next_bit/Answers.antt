use Rattle.std.proofs.Common.{arith}
use Rattle.sonic_blocks.proofs.NextBitLemmas.{none_left, next_left}
use Rattle.sonic_blocks.proofs.bits.next_bit.Goals as goal

pub returns-then-left-eq0 : goal.returns-then-left-eq0
returns-then-left-eq0 c = none_left c.args.bits c.args.from c.requires c.ranges.bits.fits c.if-left-eq0.true

pub returns-else-left-eq0 : goal.returns-else-left-eq0
returns-else-left-eq0 c = next_left c.args.bits c.args.from c.requires c.ranges.bits.fits (omega (arith, c.if-left-eq0.false))
