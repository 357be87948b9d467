use Rattle.sonic_reports.proofs.ReplyLemmas.{if_ok, report_of_answer}
use Rattle.sonic_reports.proofs.commands.get.report_paths.Goals as goal

pub returns : goal.returns
returns c = if_ok c.report_answer.result (λ reply reports. report_of_answer reply c.get_many_with.result c.get_many_with.ensures.ok c.get_many_with.ensures.err reports) c.report_answer.ensures
