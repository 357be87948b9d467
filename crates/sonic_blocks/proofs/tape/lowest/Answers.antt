use Rattle.sonic_blocks.proofs.ViewLemmas.{shifted_one, all_bits}
use Rattle.sonic_blocks.proofs.tape.lowest.Goals as goal

pub returns-then-n-lt64 : goal.returns-then-n-lt64
returns-then-n-lt64 c k h = shifted_one c.args.n k c.if-n-lt64.true

pub returns-else-n-lt64 : goal.returns-else-n-lt64
returns-else-n-lt64 c k h = all_bits c.args.n k h c.if-n-lt64.false
