use Rattle.std.proofs.Common.{ℕ}
use Rattle.sonic_blocks.proofs.ClosingLemmas.{IsScanned}
use Rattle.sonic_blocks.proofs.closing.closing_bit.Given as goal

abbrev pub invariant-loop-rest : goal.invariant-loop-rest
invariant-loop-rest l = (y : ℕ) × IsScanned l.opens l.closes l.depth l.rest l.closed y

abbrev pub decreases-loop-rest : goal.decreases-loop-rest
decreases-loop-rest l = l.rest
