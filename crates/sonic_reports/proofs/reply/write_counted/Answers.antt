use Rattle.std.proofs.Common.{◌++◌, ◌∙◌, codes}
use Rattle.std.proofs.lemmas.Result.{err_from_is_err_and}
use Rattle.sonic_io.proofs.BufferLemmas.{cut_first, cut_later, passed_more, then_written}
use Rattle.sonic_reports.proofs.LineLemmas.{counted_parts}
use Rattle.sonic_reports.proofs.reply.write_counted.Goals as goal

pub returns-in_err-write : goal.returns-in_err-write
returns-in_err-write g c =
    let digits = c.as_bytes.result.now in
    let e = err_from_is_err_and c.from_residual.result c.from_residual.ensures.1 in
    rw (e.1, counted_parts c.args.text.now (c.as_bytes.ensures.value ∙ c.format.ensures.text))
    (cut_first (digits ++ codes " ") c.args.text.now (cut_first digits (codes " ") c.in_err-write.ensures))

pub returns-in_err-write-2 : goal.returns-in_err-write-2
returns-in_err-write-2 g c =
    let digits = c.as_bytes.result.now in
    let e = err_from_is_err_and c.from_residual-in_err-write-2.result c.from_residual-in_err-write-2.ensures.1 in
    rw (e.1, counted_parts c.args.text.now (c.as_bytes.ensures.value ∙ c.format.ensures.text))
    (cut_first (digits ++ codes " ") c.args.text.now (cut_later digits (codes " ") c.in_ok-write.ensures c.in_err-write-2.ensures))

pub returns : goal.returns
returns g c =
    let digits = c.as_bytes.result.now in
    rw (counted_parts c.args.text.now (c.as_bytes.ensures.value ∙ c.format.ensures.text))
    (then_written _ (digits ++ codes " ") c.args.text.now (passed_more digits (codes " ") c.in_ok-write.ensures c.in_ok-write-2.ensures) c.write-3.result c.write-3.ensures)
