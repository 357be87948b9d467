use Rattle.std.proofs.Common.{◌≡◌, ◌-◌, ◌++◌, codes, drop, take, arith, take_all, length-drop}
use Rattle.std.proofs.lemmas.Result.{err_from_is_err_and}
use Rattle.sonic_io.proofs.BufferLemmas.{cut_first, cut_later, passed_more, then_written}
use Rattle.sonic_reports.proofs.EntryLemmas.{line_parts, short_line}
use Rattle.sonic_reports.proofs.reply.write_entry_line.Goals as goal

pub returns-then-key-le-SHORT : goal.returns-then-key-le-SHORT
returns-then-key-le-SHORT g c =
    let w = c.line-start in
    let whole = take_all (192 - w.result) (drop w.result w.new.room.line) (omega (arith, length-drop w.result w.new.room.line)) in
    rw (short_line c.args.text.now c.args.value.now.number c.args.value.now.entry, ← c.key-key.ensures, ← w.ensures.text, ← whole) c.write.ensures

pub returns-in_err-write : goal.returns-in_err-write
returns-in_err-write g c =
    let w = c.words-start in
    let words = take (192 - w.result) (drop w.result w.new.room.line) in
    let whole : words ≡ drop w.result w.new.room.line = take_all (192 - w.result) (drop w.result w.new.room.line) (omega (arith, length-drop w.result w.new.room.line)) in
    let e = err_from_is_err_and c.from_residual.result c.from_residual.ensures.1 in
    rw (e.1, line_parts c.args.text.now c.args.value.now.number c.args.value.now.entry, ← w.ensures.text, ← whole)
    (cut_first _ (codes "\n") (cut_first words _ c.in_err-write.ensures))

pub returns-in_err-write-2 : goal.returns-in_err-write-2
returns-in_err-write-2 g c =
    let w = c.words-start in
    let words = take (192 - w.result) (drop w.result w.new.room.line) in
    let whole : words ≡ drop w.result w.new.room.line = take_all (192 - w.result) (drop w.result w.new.room.line) (omega (arith, length-drop w.result w.new.room.line)) in
    let e = err_from_is_err_and c.from_residual-in_err-write-2.result c.from_residual-in_err-write-2.ensures.1 in
    rw (e.1, line_parts c.args.text.now c.args.value.now.number c.args.value.now.entry, ← w.ensures.text, ← whole, ← c.key-key.ensures)
    (cut_first (words ++ c.key-key.result.now) (codes "\n") (cut_later words c.key-key.result.now c.in_ok-write.ensures c.in_err-write-2.ensures))

pub returns : goal.returns
returns g c =
    let w = c.words-start in
    let words = take (192 - w.result) (drop w.result w.new.room.line) in
    let whole : words ≡ drop w.result w.new.room.line = take_all (192 - w.result) (drop w.result w.new.room.line) (omega (arith, length-drop w.result w.new.room.line)) in
    rw (line_parts c.args.text.now c.args.value.now.number c.args.value.now.entry, ← w.ensures.text, ← whole, ← c.key-key.ensures)
    (then_written _ (words ++ c.key-key.result.now) (codes "\n") (passed_more words c.key-key.result.now c.in_ok-write.ensures c.in_ok-write-2.ensures) c.write-4.result c.write-4.ensures)
