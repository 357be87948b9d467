use Rattle.std.proofs.Common.{◌∙◌}
use Rattle.sonic_reports.proofs.FillLemmas.{report_unfilled}
use Rattle.sonic_reports.proofs.ReplyLemmas.{if_ok}
use Rattle.sonic_reports.proofs.commands.fill.report_filled.Goals as goal
use Rattle.sonic_reports.specs.Commands.Fills.{filled}

pub returns-in_ok-text-in-Ok : goal.returns-in_ok-text-in-Ok
returns-in_ok-text-in-Ok c = filled c.in-Ok.ensures.ok (c.one.ensures.text ∙ c.in_ok-text-in-Ok.ensures.ok) c.one.ensures.status

pub returns-in-Err : goal.returns-in-Err
returns-in-Err c = if_ok c.error_reply.result (λ reply e. report_unfilled c.in-Err.ensures.err e.line e.status) c.error_reply.ensures
