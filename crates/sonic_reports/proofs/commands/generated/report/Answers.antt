use Rattle.sonic_reports.proofs.GeneratedLemmas.{report_no_document}
use Rattle.sonic_reports.proofs.ReplyLemmas.{if_ok}
use Rattle.sonic_reports.proofs.commands.generated.report.Goals as goal

pub returns : goal.returns
returns c =
    let invalid = rw (c.as_slice.ensures.value, c.in_ok-document.ensures) at c.in-Err.ensures.err in
    if_ok c.report_answer.result (λ reply line. report_no_document invalid line) c.report_answer.ensures
