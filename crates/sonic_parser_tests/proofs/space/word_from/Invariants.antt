use Rattle.std.proofs.Common.{◌-◌, length}
use Rattle.sonic_parser_tests.proofs.space.word_from.Given as goal

abbrev pub decreases-loop-place : goal.decreases-loop-place
decreases-loop-place l = length l.text - l.place
