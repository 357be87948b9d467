use Rattle.std.proofs.Common.{◌∙◌}
use Rattle.sonic_reports.proofs.ReplyLemmas.{if_both}
use Rattle.sonic_reports.proofs.commands.patch.report_patched.Goals as goal
use Rattle.sonic_reports.specs.Commands.Patches.{made, unmade}

pub returns-in-Ok : goal.returns-in-Ok
returns-in-Ok c = made c.in-Ok.ensures.ok (c.one.ensures.text ∙ c.in_ok-text-in-Ok.ensures.ok) c.one.ensures.status

pub returns-in-Err-Missing : goal.returns-in-Err-Missing
returns-in-Err-Missing c =
    let first = rw c.in-Err-Missing.field-0-is at c.in-Err-Missing.ensures.err in
    if_both c.unmade.result (λ reply text status. unmade first text status) c.unmade.ensures.text c.unmade.ensures.status

pub returns-in-Err-TestFailed : goal.returns-in-Err-TestFailed
returns-in-Err-TestFailed c =
    let first = rw c.in-Err-TestFailed.field-0-is at c.in-Err-TestFailed.ensures.err in
    if_both c.unmade-in-Err-TestFailed.result (λ reply text status. unmade first text status) c.unmade-in-Err-TestFailed.ensures.text c.unmade-in-Err-TestFailed.ensures.status

pub returns-in-Err-IntoChild : goal.returns-in-Err-IntoChild
returns-in-Err-IntoChild c =
    let first = rw c.in-Err-IntoChild.field-0-is at c.in-Err-IntoChild.ensures.err in
    if_both c.unmade-in-Err-IntoChild.result (λ reply text status. unmade first text status) c.unmade-in-Err-IntoChild.ensures.text c.unmade-in-Err-IntoChild.ensures.status
