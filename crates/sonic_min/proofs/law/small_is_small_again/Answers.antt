use Rattle.std.proofs.Common.{ap}
use Rattle.sonic_min.specs.Texts.{small, tight, wide_gaps}
use Rattle.sonic_min.proofs.SpreadLemmas.{one_again, tight_spaces, lines_spaces}
use Rattle.sonic_min.proofs.law.small_is_small_again.Goals as goal

pub returns-clause-small : goal.returns-clause-small
returns-clause-small c = λ t x y a b. ap small (one_again tight tight_spaces a b)

pub returns-clause-wide : goal.returns-clause-wide
returns-clause-wide c = λ t width x y a b. ap small (one_again (wide_gaps width) (lines_spaces width) a b)
