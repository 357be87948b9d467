use Rattle.std.proofs.Common.{◌∙◌, ap, arith, nat_cmp}
use Rattle.std.specs.Cmp.Lexicographic.{slice_cmp}
use Rattle.sonic_text.proofs.Strings.{chars_later}
use Rattle.sonic_pointer.proofs.TargetLemmas.{decided, written}
use Rattle.sonic_pointer.proofs.target.compare_string.Goals as goal

pub returns-then-first-bytes : goal.returns-then-first-bytes
returns-then-first-bytes c = λ b s.
    let key = c.as_bytes-bytes in
    c.cmp.ensures ∙ (decided key.result.now s c.if-start-end.true (omega arith) c.if-first-ne92.true c.if-first-bytes.true ∙ ap (slice_cmp nat_cmp b) key.ensures.value)

pub slice_bounds-is_written-count : goal.slice_bounds-is_written-count
slice_bounds-is_written-count c = let s = c.requires.1 in omega (arith, chars_later s.chars, s.end)

pub slice_bounds-is_written-start : goal.slice_bounds-is_written-start
slice_bounds-is_written-start c = let s = c.requires.1 in omega (arith, chars_later s.chars, s.end)

pub returns-then-is_written : goal.returns-then-is_written
returns-then-is_written c = λ b s.
    let key = c.as_bytes-bytes in
    written key.result.now s c.if-is_written.ensures.same c.if-is_written.ensures.plain ∙ ap (slice_cmp nat_cmp b) key.ensures.value
