use Rattle.sonic_reports.proofs.ReplyLemmas.{if_both, if_ok}
use Rattle.sonic_reports.proofs.TextLemmas.{report_refused}
use Rattle.sonic_reports.proofs.commands.texts.minified.Goals as goal
use Rattle.sonic_reports.specs.Commands.Texts.{valid}

pub returns-in-Ok : goal.returns-in-Ok
returns-in-Ok c = if_both c.report.result (λ reply is status. valid _ c.in-Ok.ensures.valid c.in-Ok.ensures.ok is status) c.report.ensures.text c.report.ensures.status

pub returns-in-Err : goal.returns-in-Err
returns-in-Err c = if_ok c.error_reply.result (λ reply e. report_refused c.in-Err.ensures.err e) c.error_reply.ensures
