use Rattle.sonic_blocks.proofs.ElementLemmas.{highest_set}
use Rattle.sonic_blocks.proofs.elements.bit_length.Goals as goal

pub returns-clause-last : goal.returns-clause-last
returns-clause-last c = highest_set c.args.bits c.ranges.bits.fits
