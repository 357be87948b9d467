use Rattle.std.proofs.lemmas.Result.{err_from_is_err_and}
use Rattle.sonic_io.proofs.BufferLemmas.{texts_cut, texts_passed}
use Rattle.sonic_reports.specs.Internal.Replies.{line_of_shown}
use Rattle.sonic_reports.proofs.reply.write_texts.Goals as goal

pub returns-in_err-write_text : goal.returns-in_err-write_text
returns-in_err-write_text g c =
    let l = c.loop-text in
    let e = err_from_is_err_and c.from_residual.result c.from_residual.ensures.1 in
    rw e.1 (texts_cut line_of_shown c.args.texts.now l.text-index _ c.loop-text-test.true l.invariant (rw c.as_bytes.ensures.value at c.in_err-write_text.ensures))

pub loop-text-preserved : goal.loop-text-preserved
loop-text-preserved g c =
    let l = c.loop-text in
    texts_passed line_of_shown c.args.texts.now l.text-index _ c.loop-text-test.true l.invariant (rw c.as_bytes.ensures.value at c.in_ok-write_text.ensures)
