use Rattle.std.proofs.Common.{◌≡◌, ◌+◌, ◌-◌, arith}
use Rattle.sonic_min.proofs.LaidLemmas.{comma_laid, colon_laid, close_laid, closing_deep}
use Rattle.sonic_min.proofs.wide.mark.Goals as goal

pub returns-then-byte-eq44-clause-laid : goal.returns-then-byte-eq44-clause-laid
returns-then-byte-eq44-clause-laid c = comma_laid c.requires.laid c.requires.next c.if-byte-eq44.true c.in_ok-put_token.ensures.ok c.in_ok-byte_line.ensures.ok

pub returns-then-byte-eq58-clause-laid : goal.returns-then-byte-eq58-clause-laid
returns-then-byte-eq58-clause-laid c = colon_laid c.requires.laid c.requires.next c.if-byte-eq58.true c.in_ok-put_token-2.ensures.ok c.in_ok-pair.ensures.ok

pub overflow_sub-blanks : goal.overflow_sub-blanks
overflow_sub-blanks c = closing_deep c.requires.laid c.requires.next c.if-byte-eq91.false c.if-byte-eq123.false c.if-byte-eq44.false c.if-byte-eq58.false

pub returns-clause-laid : goal.returns-clause-laid
returns-clause-laid c =
    let deep = closing_deep c.requires.laid c.requires.next c.if-byte-eq91.false c.if-byte-eq123.false c.if-byte-eq44.false c.if-byte-eq58.false in
    let less : c.args.so_far.blanks - c.args.width + c.args.width ≡ c.args.so_far.blanks = omega (arith, deep) in
    close_laid c.requires.laid c.requires.next c.if-byte-eq91.false c.if-byte-eq123.false c.if-byte-eq44.false c.if-byte-eq58.false c.in_ok-put_token-2.ensures.ok less
    c.in_ok-line_byte.ensures.ok
