use Rattle.std.proofs.Common.{◌∙◌, ◌-◌, ◌++◌, codes, drop, arith, take_all, length-drop}
use Rattle.std.proofs.lemmas.Result.{err_from_is_err_and}
use Rattle.std.specs.Cow.{cow_str_bytes}
use Rattle.sonic_io.proofs.BufferLemmas.{cut_first, cut_later, passed_more, then_written}
use Rattle.sonic_lines.specs.LineTexts.{counted}
use Rattle.sonic_reports.specs.Lines.{line_of_text}
use Rattle.sonic_reports.proofs.LineLemmas.{member_parts}
use Rattle.sonic_reports.proofs.reply.write_member.Goals as goal

pub returns-in_err-write_counted : goal.returns-in_err-write_counted
returns-in_err-write_counted g c =
    let key = counted (cow_str_bytes c.args.member.now.0) in
    let cut = rw (c.as_bytes-key.ensures.value ∙ c.deref.ensures.value) at c.in_err-write_counted.ensures in
    let e = err_from_is_err_and c.from_residual.result c.from_residual.ensures.1 in
    rw (e.1, member_parts c.args.member.now) (cut_first (key ++ codes " ") (line_of_text c.args.member.now.1.now) (cut_first key (codes " ") cut))

pub returns-in_err-write : goal.returns-in_err-write
returns-in_err-write g c =
    let key = counted (cow_str_bytes c.args.member.now.0) in
    let passed = rw (c.as_bytes-key.ensures.value ∙ c.deref.ensures.value) at c.in_ok-write_counted.ensures in
    let e = err_from_is_err_and c.from_residual-in_err-write.result c.from_residual-in_err-write.ensures.1 in
    rw (e.1, member_parts c.args.member.now)
    (cut_first (key ++ codes " ") (line_of_text c.args.member.now.1.now) (cut_later key (codes " ") passed c.in_err-write.ensures))

pub returns : goal.returns
returns g c =
    let key = counted (cow_str_bytes c.args.member.now.0) in
    let passed = rw (c.as_bytes-key.ensures.value ∙ c.deref.ensures.value) at c.in_ok-write_counted.ensures in
    rw (member_parts c.args.member.now)
    (then_written _ (key ++ codes " ") (line_of_text c.args.member.now.1.now) (passed_more key (codes " ") passed c.in_ok-write.ensures) c.write_text.result
    (rw c.as_bytes-text.ensures.value at c.write_text.ensures))

pub returns-then-is_short-2 : goal.returns-then-is_short-2
returns-then-is_short-2 g c =
    let w = c.member_line-start in
    let whole = take_all (192 - w.result) (drop w.result w.new.room) (omega (arith, length-drop w.result w.new.room)) in
    rw (member_parts c.args.member.now, ← (c.as_bytes-text.ensures.value), ← (c.as_bytes-key.ensures.value ∙ c.deref.ensures.value), ← w.ensures.text, ← whole) c.write.ensures
