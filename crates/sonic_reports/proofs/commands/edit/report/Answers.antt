use Rattle.std.proofs.Common.{◌∙◌}
use Rattle.std.proofs.lemmas.List.{take_rest}
use Rattle.sonic_reports.proofs.ReplyLemmas.{if_ok}
use Rattle.sonic_reports.proofs.commands.edit.report.Goals as goal
use Rattle.sonic_reports.specs.Commands.Edits.{bad_edit, edited}

pub returns-in-Edits : goal.returns-in-Edits
returns-in-Edits c =
    let says = rw c.in-Edits.is at c.in_ok-edits.ensures in
    if_ok c.report_edits.result (λ reply reports. edited says (rw (take_rest c.args.input.now c.in-Edits.document) at reports)) c.report_edits.ensures

pub returns-in_ok-line-in-Bad : goal.returns-in_ok-line-in-Bad
returns-in_ok-line-in-Bad c =
    let says = rw c.in-Bad.is at c.in_ok-edits.ensures in
    bad_edit says (c.one.ensures.text ∙ c.in_ok-line-in-Bad.ensures.ok) c.one.ensures.status
