use Rattle.sonic_blocks.proofs.ElementLemmas.{run_set}
use Rattle.sonic_blocks.proofs.elements.lowest_run.Goals as goal

pub returns : goal.returns
returns c = run_set c.args.bits c.ranges.bits.fits
