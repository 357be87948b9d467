use Rattle.std.proofs.Common.{◌∙◌, sym, arith}
use Rattle.sonic_reports.proofs.CommandLemmas.{decimal_one}
use Rattle.sonic_reports.proofs.commands.asked_width.Goals as goal

pub returns-then-width-gt-MOST_BLANKS-clause-none : goal.returns-then-width-gt-MOST_BLANKS-clause-none
returns-then-width-gt-MOST_BLANKS-clause-none c n e most =
    let same = decimal_one c.in_ok-width.width n (omega arith) (omega (arith, most)) (sym c.in_ok-width.ensures.some ∙ e) in
    omega (arith, same, most, c.if-width-gt-MOST_BLANKS.true)
