use Rattle.sonic_reports.proofs.ListLemmas.{listed_done, listed_error}
use Rattle.sonic_reports.proofs.ReplyLemmas.{if_both}
use Rattle.sonic_reports.proofs.commands.list.report.Goals as goal

pub returns-in_ok-line-in-Some : goal.returns-in_ok-line-in-Some
returns-in_ok-line-in-Some c =
    if_both c.of_lines.result (λ reply text status. listed_error c.in_ok-lines.ensures c.in-Some.is c.in_ok-line-in-Some.ensures text status)
    c.of_lines.ensures.text c.of_lines.ensures.status

pub returns-in-None : goal.returns-in-None
returns-in-None c =
    if_both c.of_lines-in-None.result (λ reply text status. listed_done c.in_ok-lines.ensures c.in-None.is text status)
    c.of_lines-in-None.ensures.text c.of_lines-in-None.ensures.status
