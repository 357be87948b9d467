use Rattle.std.proofs.Common.{◌≡◌, ◌++◌, ◌∙◌, sym, arith, []}
use Rattle.std.proofs.lemmas.List.{append-nil}
use Rattle.std.specs.Char.{encode_utf8}
use Rattle.std.specs.List.{slice_range}
use Rattle.sonic_text.proofs.StringReadingLemmas.{reached_start, reached_before, reached_plain, reached_escape, reached_char, reached_string, appended}
use Rattle.sonic_text.proofs.unescape.append_chars.Goals as goal

pub overflow_sub-end : goal.overflow_sub-end
overflow_sub-end c = omega (arith, reached_before (reached_start c.requires.1))

pub chars-init : goal.chars-init
chars-init c =
    let s = reached_start c.requires.1 in
    let w = reached_before s in
    (w.0, w.1, c.requires.0, [], s, c.reserve.ensures.items ∙ sym (append-nil c.args.out.now.items))

pub returns-then-stop-end-clause-ok : goal.returns-then-stop-end-clause-ok
returns-then-stop-end-clause-ok c =
    let i = c.chars.invariant in
    let p = c.plain_end-stop in
    let u = reached_plain p.result p.ensures.within p.ensures.plain i.4 in
    let run = slice_range c.args.text.now c.chars.place p.result in
    (i.3 ++ run, reached_string u c.if-stop-end.true, appended c.args.out.now.items i.3 run i.5 c.in_ok-extend_from_slice.ensures.items)

pub escape_at-code-requires-clause-char : goal.escape_at-code-requires-clause-char
escape_at-code-requires-clause-char c =
    let i = c.chars.invariant in
    let p = c.plain_end-stop in
    let v = reached_char (reached_plain p.result p.ensures.within p.ensures.plain i.4) c.if-stop-end.false in
    (_, v.q, v.d, v.char)

pub chars-smaller : goal.chars-smaller
chars-smaller c =
    let i = c.chars.invariant in
    let p = c.plain_end-stop in
    let e = c.escape_at-code in
    let u = reached_plain p.result p.ensures.within p.ensures.plain i.4 in
    let v = reached_escape e.result.1 _ e.ensures.one c.if-stop-end.false u in
    omega (arith, v.0, p.ensures.within, reached_before v.1)

pub chars-preserved : goal.chars-preserved
chars-preserved c =
    let i = c.chars.invariant in
    let p = c.plain_end-stop in
    let e = c.escape_at-code in
    let u = reached_plain p.result p.ensures.within p.ensures.plain i.4 in
    let v = reached_escape e.result.1 _ e.ensures.one c.if-stop-end.false u in
    let w = reached_before v.1 in
    let run = slice_range c.args.text.now c.chars.place p.result in
    let bytes = encode_utf8 e.result.0 in
    let x = appended c.args.out.now.items i.3 run i.5 c.in_ok-extend_from_slice.ensures.items in
    let y : c.extend_from_slice-in-chars.new.self.items ≡ c.extend_from_slice.new.self.items ++ bytes = rw (← c.codepoint_to_utf8-len.ensures.written e.ensures.small) c.in_ok-extend_from_slice-2.ensures.items in
    (w.0, w.1, i.2, (i.3 ++ run) ++ bytes, v.1, appended c.args.out.now.items (i.3 ++ run) bytes x y)
