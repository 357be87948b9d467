use Rattle.std.specs.Str.{IsUtf8}
use Rattle.sonic_patch.specs.Reading.{SaysPatch, IsNoPatch}
use Rattle.sonic_patch.specs.Views.{operations_of}
use Rattle.sonic_reports.proofs.PatchLemmas.{report_unread}
use Rattle.sonic_reports.proofs.ReplyLemmas.{if_ok}
use Rattle.sonic_reports.proofs.commands.patch.report.Goals as goal
use Rattle.sonic_reports.specs.Commands.Fills.{first_line}
use Rattle.sonic_reports.specs.Commands.Patches.{reports_patch}

pub returns-in-Ok-read_patch : goal.returns-in-Ok-read_patch
returns-in-Ok-read_patch c =
    let line = first_line c.args.input.now in
    let utf8 : IsUtf8 line = rw c.find_line_end-end.ensures.place at c.in-Ok.ensures.cases.1 in
    let says : SaysPatch line (operations_of c.in-Ok-read_patch.patch) = rw (c.in-Ok.ensures.cases.0, c.find_line_end-end.ensures.place) at c.in-Ok-read_patch.ensures.ok in
    if_ok c.report_patch.result (λ reply reports. reports_patch utf8 says (rw c.after_line.ensures at reports)) c.report_patch.ensures

pub returns-in_default-error : goal.returns-in_default-error
returns-in_default-error c =
    let line = first_line c.args.input.now in
    let utf8 : IsUtf8 line = rw c.find_line_end-end.ensures.place at c.in-Ok.ensures.cases.1 in
    let unread : IsNoPatch line c.in-Err.error = rw (c.in-Ok.ensures.cases.0, c.find_line_end-end.ensures.place) at c.in-Err.ensures.err in
    report_unread c.in-Err.error utf8 unread c.in_default-error.not-NoMemory c.bad_patch-in_default-error.ensures.text c.bad_patch-in_default-error.ensures.status
