use Rattle.sonic_reports.proofs.ReportLemmas.{has_one_report}
use Rattle.sonic_reports.proofs.law.input_has_one_report.Goals as goal

pub returns : goal.returns
returns c = has_one_report
