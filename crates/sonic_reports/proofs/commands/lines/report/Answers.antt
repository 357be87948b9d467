use Rattle.std.proofs.lemmas.List.{take_rest}
use Rattle.sonic_reports.specs.Commands.Get.IsPathsReport.{answered}
use Rattle.sonic_reports.proofs.ReplyLemmas.{if_ok, report_of_bad_line}
use Rattle.sonic_reports.proofs.commands.lines.report.Goals as goal

pub returns-in-Paths : goal.returns-in-Paths
returns-in-Paths c =
    let says = rw c.in-Paths.is at c.in_ok-tree.ensures in
    if_ok c.report_rows.result (λ reply reports. answered says.2 says.3 (rw (take_rest c.args.input.now c.in-Paths.stream) at reports)) c.report_rows.ensures

pub returns-in-Bad : goal.returns-in-Bad
returns-in-Bad c =
    let says = rw c.in-Bad.is at c.in_ok-tree.ensures in
    if_ok c.report_bad_line.result (λ reply named. report_of_bad_line says named) c.report_bad_line.ensures
