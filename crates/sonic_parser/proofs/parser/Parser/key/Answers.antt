use Rattle.sonic_parser.proofs.parser.Parser.key.Goals as goal

pub returns-clause-ok : goal.returns-clause-ok
returns-clause-ok c =
    let ok = rw (c.as_u8_slice.ensures.text, c.index-start.ensures.place) at c.in_ok-string.ensures.ok in
    rw (← c.self.view_is, c.set_index.ensures, c.of_string.ensures, c.index-start.ensures.place) ok
