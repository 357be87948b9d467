use Rattle.sonic_reports.proofs.EditLemmas.{report_invalid}
use Rattle.sonic_reports.proofs.ReplyLemmas.{if_ok}
use Rattle.sonic_reports.proofs.commands.edit.report_edits.Goals as goal
use Rattle.sonic_reports.specs.Commands.Edits.{valid}

pub returns-in-Ok : goal.returns-in-Ok
returns-in-Ok c = if_ok c.report_made.result (λ reply reports. valid c.in-Ok.ensures.valid c.in-Ok.ensures.ok reports) c.report_made.ensures

pub returns-in-Err : goal.returns-in-Err
returns-in-Err c = if_ok c.error_reply.result (λ reply e. report_invalid c.in-Err.ensures.err e.line e.status) c.error_reply.ensures
