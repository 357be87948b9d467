use Rattle.sonic_blocks.proofs.EscapeLemmas.{apart}
use Rattle.sonic_blocks_tests.proofs.blocks.check_closing.Goals as goal

pub closing_bit-requires-clause-apart : goal.closing_bit-requires-clause-apart
closing_bit-requires-clause-apart g c = apart _ _ c.if-opens-closes-ne0.false
