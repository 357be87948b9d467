use Rattle.std.proofs.Common.{arith}
use Rattle.sonic_blocks.proofs.ClosingLemmas.{few_close, scanned_start, scanned_end, closed_few, closes_here, scanned_on}
use Rattle.sonic_blocks.proofs.closing.closing_bit.Goals as goal

pub loop-rest-init : goal.loop-rest-init
loop-rest-init c = (0, scanned_start)

pub loop-rest-preserved : goal.loop-rest-preserved
loop-rest-preserved c = (_, scanned_on c.loop-rest.invariant.1 (omega arith) (omega arith) (omega arith) c.requires.apart c.if-opened-closed.false)

pub returns : goal.returns
returns c = scanned_end c.loop-rest.invariant.1 (omega arith)

pub overflow_add-closed : goal.overflow_add-closed
overflow_add-closed c = record { fits = omega (arith, closed_few c.loop-rest.invariant.1) }

pub returns-then-closes-depth : goal.returns-then-closes-depth
returns-then-closes-depth c = few_close c.args.opens c.args.closes c.args.depth (omega arith) c.if-closes-depth.true

pub returns-then-opened-closed : goal.returns-then-opened-closed
returns-then-opened-closed c = closes_here c.loop-rest.invariant.1 (omega arith) (omega arith) (omega arith) c.requires.apart c.if-opened-closed.true
