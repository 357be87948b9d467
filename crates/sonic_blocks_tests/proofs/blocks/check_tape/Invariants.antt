use Rattle.std.proofs.Common.{◌≡◌}
use Rattle.sonic_blocks_tests.proofs.blocks.check_tape.Given as goal

abbrev pub invariant-loop-place : goal.invariant-loop-place
invariant-loop-place g l = l.tape ≡ l.text
