use Rattle.std.proofs.lemmas.Result.{err_from_is_err_and}
use Rattle.sonic_io.proofs.BufferLemmas.{texts_cut, texts_passed}
use Rattle.sonic_reports.specs.Internal.Replies.{line_of_value}
use Rattle.sonic_reports.proofs.reply.write_values.Goals as goal

pub returns-in_err-write_entry : goal.returns-in_err-write_entry
returns-in_err-write_entry g c =
    let l = c.loop-value in
    let e = err_from_is_err_and c.from_residual.result c.from_residual.ensures.1 in
    rw e.1 (texts_cut line_of_value c.args.values.now l.value-index c.value-item.result c.loop-value-test.true l.invariant (rw (← c.value-item.is) c.in_err-write_entry.ensures))

pub loop-value-preserved : goal.loop-value-preserved
loop-value-preserved g c =
    let l = c.loop-value in
    texts_passed line_of_value c.args.values.now l.value-index c.value-item.result c.loop-value-test.true l.invariant (rw (← c.value-item.is) c.in_ok-write_entry.ensures)
