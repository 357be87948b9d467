use Rattle.std.proofs.Common.{arith}
use Rattle.sonic_blocks.proofs.StringBlockLemmas.{lowest_before}
use Rattle.sonic_blocks.proofs.string_block.comes_before.Goals as goal

pub returns : goal.returns
returns c = lowest_before c.args.first c.args.second (omega arith) (omega arith) c.requires
