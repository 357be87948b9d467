use Rattle.std.proofs.Common.{◌≡◌, sym, ◌+◌, ◌++◌, take, arith}
use Rattle.std.proofs.lemmas.Result.{err_from_is_err_and}
use Rattle.sonic_io.proofs.BufferLemmas.{cut_first, cut_later, passed_more}
use Rattle.sonic_reports.proofs.EntryLemmas.{key_of_entry_within, lines_more, lines_split}
use Rattle.sonic_reports.specs.Commands.Entries.{line_of_value_at, lines_from}
use Rattle.sonic_reports.proofs.reply.write_entries.Goals as goal

pub returns-in_err-write_entry_line : goal.returns-in_err-write_entry_line
returns-in_err-write_entry_line g c =
    let t = c.args.index.now.text in
    let es = c.args.index.now.entries in
    let n = c.loop-number.number in
    let same : 0 + n ≡ n = omega arith in
    let e = err_from_is_err_and c.from_residual.result c.from_residual.ensures.1 in
    rw (e.1, lines_split t 0 n es _ (sym c.in-Some.ensures.entry), same)
    (cut_first (lines_from t 0 (take n es) ++ line_of_value_at t n c.in-Some.entry) _
    (cut_later (lines_from t 0 (take n es)) (line_of_value_at t n c.in-Some.entry) c.loop-number.invariant (rw c.text.ensures at c.in_err-write_entry_line.ensures)))

pub loop-number-preserved : goal.loop-number-preserved
loop-number-preserved g c =
    let t = c.args.index.now.text in
    let es = c.args.index.now.entries in
    let n = c.loop-number.number in
    let same : 0 + n ≡ n = omega arith in
    rw (lines_more t 0 n es _ (sym c.in-Some.ensures.entry), same)
    (passed_more (lines_from t 0 (take n es)) (line_of_value_at t n c.in-Some.entry) c.loop-number.invariant (rw c.text.ensures at c.in_ok-write_entry_line.ensures))

pub write_entry_line-requires : goal.write_entry_line-requires
write_entry_line-requires g c = rw c.text.ensures (key_of_entry_within c.in-Some.ensures.is)
