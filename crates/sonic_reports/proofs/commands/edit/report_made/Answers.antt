use Rattle.std.proofs.Common.{◌∙◌}
use Rattle.sonic_reports.proofs.commands.edit.report_made.Goals as goal
use Rattle.sonic_reports.specs.Commands.Edits.{refused, made}

pub returns-in-Some : goal.returns-in-Some
returns-in-Some c =
    let first = rw c.in-Some.is at c.in_ok-number.ensures.refused in
    refused first (c.one.ensures.text ∙ c.in_ok-line-in-Some.ensures.ok) c.one.ensures.status

pub returns : goal.returns
returns c =
    made (c.in_ok-number.ensures.made c.in-None.is) (c.one-in-None.ensures.text ∙ c.in_ok-text-in-None.ensures.ok) c.one-in-None.ensures.status
