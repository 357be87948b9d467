use Rattle.std.proofs.Common.{◌∙◌}
use Rattle.std.specs.Cow.{cow_str_bytes}
use Rattle.sonic_reports.specs.Internal.Replies.{text_of_lines}
use Rattle.sonic_io.proofs.OutsideLemmas.{on_ok, on_err, took_whole}
use Rattle.sonic_io.proofs.BufferLemmas.{but_rest, but_rest_prefix, cut_first, cut_later, passed_more}
use Rattle.sonic_reports.proofs.reply.deliver.Goals as goal

pub returns-in_err-write_lines-clause-prefix : goal.returns-in_err-write_lines-clause-prefix
returns-in_err-write_lines-clause-prefix g c =
    let cut = cut_first (text_of_lines c.args.reply.lines) (cow_str_bytes c.args.reply.last) c.in_err-write_lines.ensures in
    on_err c.from_residual.result _ (rw c.new-buffer.ensures at cut.prefix)

pub returns-in_err-write-clause-prefix : goal.returns-in_err-write-clause-prefix
returns-in_err-write-clause-prefix g c =
    let last = rw (c.as_bytes.ensures.value, c.deref.ensures.value) at c.in_err-write.ensures in
    let cut = cut_later (text_of_lines c.args.reply.lines) (cow_str_bytes c.args.reply.last) c.in_ok-write_lines.ensures last in
    on_err c.from_residual-in_err-write.result _ (rw c.new-buffer.ensures at cut.prefix)

pub returns-in_err-flush-clause-prefix : goal.returns-in_err-flush-clause-prefix
returns-in_err-flush-clause-prefix g c =
    let last = rw (c.as_bytes.ensures.value, c.deref.ensures.value) at c.in_ok-write.ensures in
    let passed = passed_more (text_of_lines c.args.reply.lines) (cow_str_bytes c.args.reply.last) c.in_ok-write_lines.ensures last in
    on_err c.from_residual-in_err-flush.result _ (but_rest_prefix (rw c.new-buffer.ensures at passed.taken) c.in_err-flush.ensures.prefix)

pub returns-clause-all : goal.returns-clause-all
returns-clause-all g c =
    let last = rw (c.as_bytes.ensures.value, c.deref.ensures.value) at c.in_ok-write.ensures in
    let passed = passed_more (text_of_lines c.args.reply.lines) (cow_str_bytes c.args.reply.last) c.in_ok-write_lines.ensures last in
    on_ok c.finish.result _ (c.finish.ensures.kept ∙ but_rest (rw c.new-buffer.ensures at passed.taken) c.in_ok-flush.ensures.all)

pub returns-clause-prefix : goal.returns-clause-prefix
returns-clause-prefix g c =
    let last = rw (c.as_bytes.ensures.value, c.deref.ensures.value) at c.in_ok-write.ensures in
    let passed = passed_more (text_of_lines c.args.reply.lines) (cow_str_bytes c.args.reply.last) c.in_ok-write_lines.ensures last in
    on_err c.finish.result _ (took_whole _ _ _ (c.finish.ensures.kept ∙ but_rest (rw c.new-buffer.ensures at passed.taken) c.in_ok-flush.ensures.all))
