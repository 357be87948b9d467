use Rattle.std.proofs.Common.{◌∙◌, sym, arith}
use Rattle.sonic_reports.proofs.CommandLemmas.{decimal_one}
use Rattle.sonic_reports.proofs.commands.asked_count.Goals as goal

pub returns-then-count-eq0-clause-none : goal.returns-then-count-eq0-clause-none
returns-then-count-eq0-clause-none c n e least most =
    let same = decimal_one c.in_ok-count.count n (omega arith) (omega (arith, most)) (sym c.in_ok-count.ensures.some ∙ e) in
    omega (arith, same, least, c.if-count-eq0.true)

pub returns-then-count-gt-MOST-clause-none : goal.returns-then-count-gt-MOST-clause-none
returns-then-count-gt-MOST-clause-none c n e least most =
    let same = decimal_one c.in_ok-count.count n (omega arith) (omega (arith, most)) (sym c.in_ok-count.ensures.some ∙ e) in
    omega (arith, same, most, c.if-count-gt-MOST.true)
