use Rattle.sonic_blocks.proofs.ParityLemmas.{covers_all}
use Rattle.sonic_blocks.proofs.bits.prefix_xor.Goals as goal

pub returns : goal.returns
returns c k h = covers_all c.args.bitmask k h
