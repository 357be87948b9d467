use Rattle.sonic_reports.proofs.FastLemmas.{report_invalid}
use Rattle.sonic_reports.proofs.ReplyLemmas.{if_ok, report_of_answer}
use Rattle.sonic_reports.proofs.commands.fast.report_valid.Goals as goal
use Rattle.sonic_reports.specs.Commands.Fast.{valid}

pub returns-in-Ok : goal.returns-in-Ok
returns-in-Ok c =
    let answer = c.follow in
    if_ok c.report_answer.result (λ reply reports. valid c.in-Ok.ensures.ok (report_of_answer reply answer.result answer.ensures.ok answer.ensures.err reports))
    c.report_answer.ensures

pub returns-in-Err : goal.returns-in-Err
returns-in-Err c = if_ok c.report_answer-in-Err.result (λ reply reports. report_invalid c.in-Err.ensures.err reports) c.report_answer-in-Err.ensures
