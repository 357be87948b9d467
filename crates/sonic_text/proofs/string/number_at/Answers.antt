use Rattle.std.proofs.Common.{arith}
use Rattle.sonic_text.proofs.HexDigitLemmas.{hex4_within}
use Rattle.sonic_text.proofs.string.number_at.Goals as goal

pub returns-in-Some-clause-ok : goal.returns-in-Some-clause-ok
returns-in-Some-clause-ok c =
    let h = c.in-Some.ensures.some in
    (omega (arith, hex4_within h), h, grind arith)
