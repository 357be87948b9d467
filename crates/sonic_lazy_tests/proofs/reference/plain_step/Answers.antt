use Rattle.sonic_lazy_tests.proofs.reference.plain_step.Goals as goal

pub returns-in-Err-At-clause-nowhere : goal.returns-in-Err-At-clause-nowhere
returns-in-Err-At-clause-nowhere c =
    let nowhere = rw c.in-Err-At.field-0-is at c.in-Err-At.ensures.err in
    rw (c.parser_at-parser.ensures.text, c.parser_at-parser.ensures.place) at nowhere
