use Rattle.std.proofs.Common.{◌∙◌, ap}
use Rattle.sonic_reports.proofs.GeneratedLemmas.{report_counted, report_stopped, lines_written}
use Rattle.sonic_reports.specs.Internal.Counted.{counts_of_values}
use Rattle.sonic_reports.proofs.ReplyLemmas.{if_ok}
use Rattle.sonic_reports.proofs.commands.generated.report_valid.Goals as goal

pub returns-in-Err : goal.returns-in-Err
returns-in-Err c =
    let valid = rw c.requires.is at c.requires.valid in
    let refusal = rw (c.requires.is, c.in-Ok.ensures) at c.in-Err.ensures.err in
    if_ok c.report_answer.result (λ reply line. report_stopped valid refusal line) c.report_answer.ensures

pub returns-in-Err-get_many_unchecked : goal.returns-in-Err-get_many_unchecked
returns-in-Err-get_many_unchecked c =
    let valid = rw c.requires.is at c.requires.valid in
    let refusal = rw (c.requires.is, c.in-Ok.ensures) at c.in-Err-get_many_unchecked.ensures.err in
    if_ok c.report_answer-in-Err-get_many_unchecked.result (λ reply line. report_stopped valid refusal line) c.report_answer-in-Err-get_many_unchecked.ensures

pub returns : goal.returns
returns c =
    let valid = rw c.requires.is at c.requires.valid in
    let checked = rw (c.requires.is, c.in-Ok.ensures) at c.in-Ok-get_many.ensures.ok in
    let unchecked = rw (c.requires.is, c.in-Ok.ensures) at c.in-Ok-get_many_unchecked.ensures.ok in
    report_counted valid checked unchecked (c.one.ensures.text ∙ c.in_ok-text.ensures.ok ∙ lines_written c.args.count c.in-Ok-get_many.values.items c.in-Ok-get_many_unchecked.values.items c.requires.is (c.in_ok-checked.ensures ∙ ap counts_of_values c.deref.ensures.value) (c.in_ok-unchecked.ensures ∙ ap counts_of_values c.deref-2.ensures.value)) c.one.ensures.status
