use Rattle.std.proofs.Common.{◌∙◌, ap, append-nil}
use Rattle.sonic_reports.proofs.EntryLemmas.{report_no_document}
use Rattle.sonic_reports.proofs.ReplyLemmas.{if_both, if_ok}
use Rattle.sonic_reports.proofs.commands.index.report.Goals as goal
use Rattle.sonic_reports.specs.Commands.Entries.{indexed, lines_from}

pub returns-in-Ok : goal.returns-in-Ok
returns-in-Ok c =
    let text = c.in-Ok.ensures.ok.0 in
    if_both c.of_lines.result
    (λ reply is status. indexed _ c.in-Ok.ensures.valid c.in-Ok.ensures.ok.1 (is ∙ append-nil (lines_from c.in-Ok.index.text 0 c.in-Ok.index.entries) ∙ ap (λ t. lines_from t 0 c.in-Ok.index.entries) text) status)
    c.of_lines.ensures.text c.of_lines.ensures.status

pub returns-in-Err : goal.returns-in-Err
returns-in-Err c = if_ok c.error_reply.result (λ reply e. report_no_document c.in-Err.ensures.err e) c.error_reply.ensures
