use Rattle.sonic_reports.proofs.FillLemmas.{report_unread}
use Rattle.sonic_reports.proofs.ReplyLemmas.{if_ok}
use Rattle.sonic_reports.proofs.commands.fill.report.Goals as goal
use Rattle.sonic_reports.proofs.commands.fill.report.Goals.{in-NoMemory, in_default}
use Rattle.sonic_reports.specs.Commands.Fills.{reports_filled}

pub returns-in-Ok : goal.returns-in-Ok
returns-in-Ok c =
    let read = rw c.find_line_end-end.ensures.place at c.in-Ok.ensures.ok in
    if_ok c.report_filled.result (λ reply reports. reports_filled read (rw c.after_line.ensures at reports)) c.report_filled.ensures

pub returns-in-Err-2 : goal.returns-in-Err-2
returns-in-Err-2 c =
    let unread = rw c.find_line_end-end.ensures.place at c.in-Err.ensures.err in
    elim c.match-matches.branch [
      | in-NoMemory w ↦ absurd cc
      | in_default w ↦ report_unread unread (rw c.code.ensures at w.in_default.not-NoMemory) c.one.ensures.text c.one.ensures.status
    ]
