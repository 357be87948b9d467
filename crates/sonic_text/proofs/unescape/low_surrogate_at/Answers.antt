use Rattle.std.proofs.Common.{arith}
use Rattle.sonic_text.proofs.StringReadingLemmas.{escape_within}
use Rattle.sonic_text.proofs.unescape.low_surrogate_at.Goals as goal

pub returns-then-text-place-lt6-clause-none : goal.returns-then-text-place-lt6-clause-none
returns-then-text-place-lt6-clause-none c = λ e h. omega (arith, escape_within c.args.text.now c.args.place h.0 h.1)
