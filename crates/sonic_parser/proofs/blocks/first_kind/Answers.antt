use Rattle.sonic_parser.proofs.BlockLemmas.{brace_first, bracket_first}
use Rattle.sonic_parser.proofs.blocks.first_kind.Goals as goal

pub returns-then-masks-eq1 : goal.returns-then-masks-eq1
returns-then-masks-eq1 c t p kind masks begins = brace_first t p _ masks.open_brace kind begins c.if-masks-eq1.true

pub returns : goal.returns
returns c t p kind masks begins = bracket_first t p _ masks.open_brace kind begins c.if-masks-eq1.false
