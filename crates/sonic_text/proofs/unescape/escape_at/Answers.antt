use Rattle.sonic_text.proofs.StringReadingLemmas.{escape_letter, escape_unicode, escape_short}
use Rattle.sonic_text.proofs.unescape.escape_at.Goals as goal

pub bounds-text-place : goal.bounds-text-place
bounds-text-place c = escape_letter c.requires.escape c.requires.char.3

pub unicode_at-requires : goal.unicode_at-requires
unicode_at-requires c =
    let u = escape_unicode c.requires.escape c.if-letter-eq117.true c.requires.char.3 in
    (u.n, u.escape)

pub returns-then-letter-eq117-clause-one : goal.returns-then-letter-eq117-clause-one
returns-then-letter-eq117-clause-one c = λ m q b h.
    let u = escape_unicode c.requires.escape c.if-letter-eq117.true h in
    c.unicode_at.ensures.one m u.n q b u.escape u.char

pub returns-clause-one : goal.returns-clause-one
returns-clause-one c = λ m q b h.
    let s = escape_short c.requires.escape c.if-letter-eq117.false h in
    rw c.escaped_of.ensures s
