use Rattle.std.proofs.Common.{◌-◌, codes, drop, arith, take_all, length-drop}
use Rattle.std.proofs.lemmas.Result.{err_from_is_err_and}
use Rattle.sonic_io.proofs.BufferLemmas.{cut_first, then_written}
use Rattle.sonic_lines.specs.LineTexts.{counted}
use Rattle.sonic_reports.proofs.reply.write_text.Goals as goal

pub returns-in_err-write_counted : goal.returns-in_err-write_counted
returns-in_err-write_counted g c =
    let e = err_from_is_err_and c.from_residual.result c.from_residual.ensures.1 in
    rw e.1 (cut_first (counted c.args.text.now) (codes "\n") c.in_err-write_counted.ensures)

pub returns : goal.returns
returns g c = then_written _ (counted c.args.text.now) (codes "\n") c.in_ok-write_counted.ensures c.write-2.result c.write-2.ensures

pub returns-then-is_short : goal.returns-then-is_short
returns-then-is_short g c =
    let w = c.value_line-start in
    let whole = take_all (192 - w.result) (drop w.result w.new.room) (omega (arith, length-drop w.result w.new.room)) in
    rw (← w.ensures.text, ← whole) c.write.ensures
