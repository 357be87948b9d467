use Rattle.std.proofs.Common.{not, ◌∙◌, ap, arith}
use Rattle.sonic_blocks.proofs.BitLemmas.{set_flip}
use Rattle.sonic_blocks.proofs.lanes.get_nonspace_bits.Goals as goal

pub returns : goal.returns
returns c k h = set_flip c.spaces.result k (omega arith) h ∙ ap not (c.spaces.ensures k h)
