use Rattle.sonic_reports.proofs.ReplyLemmas.{values_reply}
use Rattle.sonic_reports.proofs.commands.get.report_answer.Goals as goal

pub returns-in-Ok : goal.returns-in-Ok
returns-in-Ok c = rw c.in-Ok.is (values_reply c.of_lines.result c.in-Ok.values.items c.of_lines.ensures.text c.of_lines.ensures.status)
