use Rattle.sonic_reports.proofs.PatchLemmas.{report_invalid}
use Rattle.sonic_reports.proofs.ReplyLemmas.{if_ok}
use Rattle.sonic_reports.proofs.commands.patch.report_patch.Goals as goal
use Rattle.sonic_reports.specs.Commands.Patches.{valid}

pub returns-in-Ok : goal.returns-in-Ok
returns-in-Ok c = if_ok c.report_patched.result (λ reply reports. valid c.in-Ok.ensures.valid c.in-Ok.ensures.ok reports) c.report_patched.ensures

pub returns-in-Err : goal.returns-in-Err
returns-in-Err c = if_ok c.error_reply.result (λ reply r. report_invalid c.in-Err.ensures.err r) c.error_reply.ensures
