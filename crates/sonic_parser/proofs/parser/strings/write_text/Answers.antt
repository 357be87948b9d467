use Rattle.sonic_text.proofs.StringTexts.{contents_text}
use Rattle.sonic_parser.proofs.parser.strings.write_text.Goals as goal

pub returns-in-Ok-2-clause-text : goal.returns-in-Ok-2-clause-text
returns-in-Ok-2-clause-text c =
    let done = c.in-Ok-2.ensures.ok in
    let strict = c.if-lossy.false in
    rw (done.2, c.clear.ensures.items) (contents_text (rw strict at done.1) c.requires.within (c.requires.utf8 strict))
